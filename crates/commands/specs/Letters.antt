-- The two letters that a line begins with, by their ASCII codes.
use Rattle.std.specs.Prelude.{ℕ, cond, Some, None, Option, ◌==◌}
use Rattle.commands.specs.declared.command.Operation.{Operation}
use Rattle.commands.specs.declared.command.Operation.TheVariants.{Hypot, Cathetus, ThreeSides, NewScan}
use Rattle.commands.specs.declared.command.FormName.{FormName}
use Rattle.commands.specs.declared.command.FormName.TheVariants.{Binary64, Binary32, Thousandths}

-- H, L, T and N name an operation
abbrev pub operation_of : ℕ → Option Operation
operation_of letter =
    cond (letter == 72) (Some Hypot)
    (cond (letter == 76) (Some Cathetus)
    (cond (letter == 84) (Some ThreeSides)
    (cond (letter == 78) (Some NewScan) None)))

-- d, s and m name a form
abbrev pub form_of : ℕ → Option FormName
form_of letter =
    cond (letter == 100) (Some Binary64)
    (cond (letter == 115) (Some Binary32)
    (cond (letter == 109) (Some Thousandths) None))

-- how many fields an operation takes
abbrev pub field_count : Operation → ℕ
field_count Hypot = 2
field_count Cathetus = 2
field_count ThreeSides = 3
field_count NewScan = 0
