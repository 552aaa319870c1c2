-- The line of a command has the right length and its spaces in their places, and each field reads back.
use Rattle.std.proofs.Common.{◌≡◌, ℕ, ◌^◌, ◌<◌, Ok, Result, refl, ap, ◌∙◌}
use Rattle.std.specs.Result.{result_map_both}
use Rattle.lengths.specs.declared.call.Call.TheVariants.{Hypot, Cathetus, ThreeSides}
use Rattle.commands.specs.Fields.{spaced, as_pattern, both, three}
use Rattle.sheet.specs.Hex.{hex_number}
use Rattle.commands.specs.Hex.{hex_digits}
use Rattle.commands.specs.Line.{command_of}
use Rattle.commands.specs.Spelt.{line_of, InWidth}
use Rattle.commands.specs.declared.command.Command.{Command}
use Rattle.commands.specs.declared.command.Command.TheVariants.{Binary64, Binary32, Thousandths}
use Rattle.solver.specs.declared.log.Request.{Request}
use Rattle.solver.specs.declared.log.Request.TheVariants.{Length, NewScan}
use Rattle.commands.specs.declared.fault.TextFault.{TextFault}
use Rattle.commands.proofs.ReadBack.{written_reads_back}

-- a field of so many digits that stands at a place
abbrev read : ℕ → ℕ → ℕ → Result ℕ TextFault
read digits place number = as_pattern (λ n. n) (hex_number place (hex_digits digits number))

reads : (digits place number : ℕ) → number < 16 ^ digits → read digits place number ≡ Ok number
reads digits place number small = ap (as_pattern (λ n. n)) (written_reads_back place digits number small)

module _ (into : Request ℕ → Command) (digits : ℕ) where
  abbrev answer : Result (Request ℕ) TextFault → Result Command TextFault
  answer = result_map_both into (λ fault. fault)

  two_read : (made : ℕ → ℕ → Request ℕ) (p q x y : ℕ) → x < 16 ^ digits → y < 16 ^ digits → answer (both made (read digits p x) (read digits q y)) ≡ Ok (into (made x y))
  two_read made p q x y hx hy = ap (λ r. answer (both made r (read digits q y))) (reads digits p x hx) ∙ ap (λ r. answer (both made (Ok x) r)) (reads digits q y hy)

  three_read : (made : ℕ → ℕ → ℕ → Request ℕ) (p q s x y z : ℕ) → x < 16 ^ digits → y < 16 ^ digits → z < 16 ^ digits
      → answer (three made (read digits p x) (read digits q y) (read digits s z)) ≡ Ok (into (made x y z))
  three_read made p q s x y z hx hy hz =
      ap (λ r. answer (three made r (read digits q y) (read digits s z))) (reads digits p x hx)
      ∙ ap (λ r. answer (three made (Ok x) r (read digits s z))) (reads digits q y hy)
      ∙ ap (λ r. answer (three made (Ok x) (Ok y) r)) (reads digits s z hz)

pub every_command_has_a_line : (command : Command) → InWidth command → command_of (line_of command) ≡ Ok command
unfolding hex_digits spaced
every_command_has_a_line (Binary64 (Length (Hypot x y))) h = two_read Binary64 16 (λ x y. Length (Hypot x y)) 4 21 x y h.0 h.1.0
every_command_has_a_line (Binary64 (Length (Cathetus x y))) h = two_read Binary64 16 (λ x y. Length (Cathetus x y)) 4 21 x y h.0 h.1.0
every_command_has_a_line (Binary64 (Length (ThreeSides x y z))) h = three_read Binary64 16 (λ x y z. Length (ThreeSides x y z)) 4 21 38 x y z h.0 h.1.0 h.1.1.0
every_command_has_a_line (Binary64 NewScan) h = refl
every_command_has_a_line (Binary32 (Length (Hypot x y))) h = two_read Binary32 8 (λ x y. Length (Hypot x y)) 4 13 x y h.0 h.1.0
every_command_has_a_line (Binary32 (Length (Cathetus x y))) h = two_read Binary32 8 (λ x y. Length (Cathetus x y)) 4 13 x y h.0 h.1.0
every_command_has_a_line (Binary32 (Length (ThreeSides x y z))) h = three_read Binary32 8 (λ x y z. Length (ThreeSides x y z)) 4 13 22 x y z h.0 h.1.0 h.1.1.0
every_command_has_a_line (Binary32 NewScan) h = refl
every_command_has_a_line (Thousandths (Length (Hypot x y))) h = two_read Thousandths 8 (λ x y. Length (Hypot x y)) 4 13 x y h.0 h.1.0
every_command_has_a_line (Thousandths (Length (Cathetus x y))) h = two_read Thousandths 8 (λ x y. Length (Cathetus x y)) 4 13 x y h.0 h.1.0
every_command_has_a_line (Thousandths (Length (ThreeSides x y z))) h = three_read Thousandths 8 (λ x y z. Length (ThreeSides x y z)) 4 13 22 x y z h.0 h.1.0 h.1.1.0
every_command_has_a_line (Thousandths NewScan) h = refl
