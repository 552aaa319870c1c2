-- Worked lines and answers.
use Rattle.std.specs.Prelude.{◌≡◌, [], ◌∷◌, ◌++◌, Ok, Err, codes}
use Rattle.lengths.specs.declared.call.Call.TheVariants.{Hypot, Cathetus, ThreeSides}
use Rattle.commands.specs.Input.{lines_of}
use Rattle.commands.specs.Line.{command_of}
use Rattle.commands.specs.Reply.{reply_line, refusal_line, fault_line}
use Rattle.commands.specs.declared.command.Command.TheVariants.{Binary64, Binary32, Thousandths}
use Rattle.solver.specs.declared.log.Request.TheVariants.{Length, NewScan}
use Rattle.commands.specs.declared.fault.Layer.TheVariants.{Solver}
use Rattle.commands.specs.declared.fault.TextFault.TheVariants.{Letter, Layout, Digit}
use Rattle.commands.specs.declared.pattern.PatternBits.TheVariants.{Bits64, Bits32}
use Rattle.commands.specs.declared.reply.Reply.TheVariants.{Length as LengthReply, NewScan as NewScanReply}

-- what lines ask for
pub record WorkedLines : Type 0 where
  pub hypot : command_of (codes "H d 4008000000000000 4010000000000000") ≡ Ok (Binary64 (Length (Hypot 0x4008_0000_0000_0000 0x4010_0000_0000_0000)))
  pub cathetus : command_of (codes "L s 40a00000 40800000") ≡ Ok (Binary32 (Length (Cathetus 0x40a0_0000 0x4080_0000)))
  pub capitals : command_of (codes "L s 40A00000 40800000") ≡ Ok (Binary32 (Length (Cathetus 0x40a0_0000 0x4080_0000)))
  pub three_sides : command_of (codes "T m 00000bb8 00000fa0 00000000") ≡ Ok (Thousandths (Length (ThreeSides 3000 4000 0)))
  pub new_scan : command_of (codes "N d") ≡ Ok (Binary64 NewScan)
  pub empty : command_of [] ≡ Err (Letter 0)
  pub one_letter : command_of (codes "H") ≡ Err (Letter 1)
  pub no_space : command_of (codes "Hd") ≡ Err (Letter 2)
  pub operation : command_of (codes "Qx") ≡ Err (Letter 0)
  pub form : command_of (codes "Hxx") ≡ Err (Letter 2)
  pub letters_exact : command_of (codes "H D") ≡ Err (Letter 2)
  pub between : command_of (codes "Hxd") ≡ Err (Layout 3)
  pub space_behind : command_of (codes "N d ") ≡ Err (Layout 4)
  pub space_for_digit : command_of (codes "H s  0000000 0000000g") ≡ Err (Digit 4)

-- the bytes of answers
pub record WorkedAnswers : Type 0 where
  pub binary64 : reply_line (LengthReply (Bits64 0x4014_0000_0000_0000) 0) ≡ codes "= 4014000000000000 0" ++ 10 ∷ []
  pub thousandths : reply_line (LengthReply (Bits32 5000) 12) ≡ codes "= 00001388 12" ++ 10 ∷ []
  pub new_scan : reply_line NewScanReply ≡ codes "= new" ++ 10 ∷ []
  pub text : fault_line (Letter 0) ≡ codes "! 8 text 0" ++ 10 ∷ []
  pub solver : refusal_line 4 Solver 3 ≡ codes "! 4 solver 3" ++ 10 ∷ []

-- the lines of inputs
pub record WorkedInputs : Type 0 where
  pub none : lines_of [] ≡ []
  pub empty_line : lines_of (10 ∷ []) ≡ [] ∷ []
  pub ended : lines_of (65 ∷ 13 ∷ 10 ∷ []) ≡ (65 ∷ 13 ∷ []) ∷ []
  pub last : lines_of (65 ∷ 10 ∷ 10 ∷ 66 ∷ []) ≡ (65 ∷ []) ∷ [] ∷ (66 ∷ []) ∷ []
