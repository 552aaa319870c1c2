-- A line of at most 80 bytes is its own front, and a longer one is refused by the length of its front.
use Rattle.std.proofs.Common.{◌≡◌, ℕ, ◌<◌, ◌≤◌, List, length, take, Err, sym, ap, ◌∙◌, ⊎_elim, arith, length-take, lt-ltb}
use Rattle.std.proofs.lemmas.List.{take_all}
use Rattle.std.proofs.lemmas.Bool.{cases_lt}
use Rattle.commands.specs.Line.{command_of}
use Rattle.commands.specs.declared.fault.TextFault.TheVariants.{LongLine}

over : (line : List ℕ) → 80 < length line → command_of line ≡ Err LongLine
over line long = simp (lt-ltb 80 (length line) long)

pub first_bytes_decide : (line : List ℕ) → command_of (take 81 line) ≡ command_of line
first_bytes_decide line = ⊎_elim
    (λ (long : 80 < length line). over (take 81 line) (simp length-take (omega arith)) ∙ sym (over line long))
    (λ (short : length line ≤ 80). let all : length line ≤ 81 = omega arith in ap command_of (take_all 81 line all))
    (cases_lt 80 (length line))
