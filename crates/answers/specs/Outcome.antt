-- What a line is answered with, and how it leaves the solvers.
use Rattle.std.specs.Prelude.{ℕ, List, Ok, Err, Result}
use Rattle.forms.specs.Binary.{binary64, binary32}
use Rattle.forms.specs.Thousandths.{thousandths}
use Rattle.sources.specs.declared.digit.DigitSource.{DigitSource}
use Rattle.sources.specs.Source.{Source, exact_source}
use Rattle.solver.specs.Reply.{Reply as Replied}
use Rattle.solver.specs.declared.log.Done.TheVariants.{Served, Renewed}
use Rattle.solver.specs.Serving.{reply_to, after_request}
use Rattle.commands.specs.declared.command.Command.{Command}
use Rattle.commands.specs.declared.command.Command.TheVariants.{Binary64, Binary32, Thousandths}
use Rattle.commands.specs.declared.fault.TextFault.{TextFault}
use Rattle.commands.specs.declared.fault.TextFault.TheVariants.{Call}
use Rattle.commands.specs.declared.pattern.PatternBits.{PatternBits}
use Rattle.commands.specs.declared.pattern.PatternBits.TheVariants.{Bits64, Bits32}
use Rattle.commands.specs.declared.reply.Reply.{Reply}
use Rattle.commands.specs.declared.reply.Reply.TheVariants.{NewScan}
use Rattle.commands.specs.Line.{command_of}
use Rattle.commands.specs.Reply.{reply_line, length_reply, fault_line}
use Rattle.answers.specs.declared.solvers.Solvers.{Solvers}

-- what the digit source means
abbrev pub digits : DigitSource → Source
digits source = exact_source

-- what a solver replied, as an answer to a line: a refusal of the solver is carried whole
abbrev pub request_outcome : {P : Type 0} → (P → PatternBits) → Replied P → Result Reply TextFault
request_outcome written (Ok (Served measured)) = Ok (length_reply written measured)
request_outcome written (Err refusal) = Err (Call refusal)
request_outcome written (Ok Renewed) = Ok NewScan

-- the solver of the form that a command names answers it, and the other two are left as they were
module _ (solvers : Solvers) where
  abbrev pub command_outcome : Command → Result Reply TextFault
  command_outcome (Binary64 request) = request_outcome Bits64 (reply_to binary64 digits solvers.binary64 request)
  command_outcome (Binary32 request) = request_outcome Bits32 (reply_to binary32 digits solvers.binary32 request)
  command_outcome (Thousandths request) = request_outcome Bits32 (reply_to thousandths digits solvers.thousandths request)

  abbrev pub after_command : Command → Solvers
  after_command (Binary64 request) =
      record { binary64 = after_request binary64 digits solvers.binary64 request; binary32 = solvers.binary32; thousandths = solvers.thousandths }
  after_command (Binary32 request) =
      record { binary64 = solvers.binary64; binary32 = after_request binary32 digits solvers.binary32 request; thousandths = solvers.thousandths }
  after_command (Thousandths request) =
      record { binary64 = solvers.binary64; binary32 = solvers.binary32; thousandths = after_request thousandths digits solvers.thousandths request }

  -- a line that asks for nothing is refused, and no solver is asked
  abbrev pub line_outcome : Result Command TextFault → Result Reply TextFault
  line_outcome (Ok command) = command_outcome command
  line_outcome (Err fault) = Err fault

  abbrev pub after_parsed : Result Command TextFault → Solvers
  after_parsed (Ok command) = after_command command
  after_parsed (Err fault) = solvers

-- the line that tells an outcome, its byte 10 included
abbrev pub told_outcome : Result Reply TextFault → List ℕ
told_outcome (Ok reply) = reply_line reply
told_outcome (Err fault) = fault_line fault

-- the bytes that answer a line, its byte 10 included
abbrev pub line_answer : Solvers → List ℕ → List ℕ
line_answer solvers line = told_outcome (line_outcome solvers (command_of line))

-- the solvers after a line
abbrev pub after_line : Solvers → List ℕ → Solvers
after_line solvers line = after_parsed solvers (command_of line)
