-- A line with two patterns of 32 bits: eight hexadecimal digits, a space, eight hexadecimal digits.
use Rattle.std.specs.Prelude.{ℕ, cond, ◌&&◌, List, [], ◌∷◌, ◌++◌, length, take, drop, Ok, Err, Result, ◌==◌, slice_index, codes, decimal}
use Rattle.forms.specs.Thousandths.{thousandths}
use Rattle.triangle.specs.Answer.{hypot_pattern}
use Rattle.sheet.specs.Hex.{hex_number}
use Rattle.sheet.specs.declared.hex.NotADigit.{NotADigit}
use Rattle.sheet.specs.declared.pair.Pair.{Pair}
use Rattle.sheet.specs.declared.pair.Solved.{Solved}
use Rattle.sheet.specs.declared.pair.LineFault.{LineFault}
use Rattle.sheet.specs.declared.pair.LineFault.TheVariants.{Layout, Digit}

-- both fields, the first that is faulty first
abbrev pub joined : Result ℕ NotADigit → Result ℕ NotADigit → Result Pair LineFault
joined (Err other) y = Err (Digit other.place)
joined (Ok x) (Err other) = Err (Digit other.place)
joined (Ok x) (Ok y) = Ok (record { x = x; y = y })

-- the patterns of a line: its layout is looked at before its digits
abbrev pub pair_of : List ℕ → Result Pair LineFault
pair_of line =
    cond (length line == 17 && slice_index line 8 == 32)
    (joined (hex_number 0 (take 8 line)) (hex_number 9 (take 8 (drop 9 line))))
    (Err Layout)

-- the patterns of a line with their resultant
abbrev pub solved : Result Pair LineFault → Result Solved LineFault
solved (Ok pair) = Ok (record { pair = pair; resultant = hypot_pattern thousandths (pair.x ∷ pair.y ∷ []) })
solved (Err fault) = Err fault

-- what is wrong with a line, in words
abbrev pub fault_text : LineFault → List ℕ
fault_text Layout = codes "not two patterns of 8 hexadecimal digits with one space between"
fault_text (Digit place) = codes "no hexadecimal digit at place " ++ decimal place
