-- The plain cases: those in which no root has to be found.
use Rattle.std.specs.Prelude.{ℕ, Bool, true, false, cond, ◌&&◌, List, [], ◌∷◌, Some, None, Option, ◌==◌, nat_lt}
use Rattle.forms.specs.declared.reading.Reading.{Reading}
use Rattle.forms.specs.declared.reading.Reading.TheVariants.{Finite, Infinite, QuietNan, SignallingNan}
use Rattle.forms.specs.Encoding.{Encoding}
use Rattle.sides.specs.Order.{descending, is_far, near}
use Rattle.triangle.specs.Outcome.{magnitude}
use Rattle.triangle.specs.Answer.{special_pattern}
use Rattle.lengths.specs.Asked.{Asked, sum_of, difference_of, outcome, magnitudes}

abbrev pub all_zero : List Reading → Bool
all_zero [] = true
all_zero (side ∷ sides) = magnitude side == 0 && all_zero sides

abbrev pub is_empty : List ℕ → Bool
is_empty [] = true
is_empty (u ∷ sides) = false

-- all sides but the largest are far
abbrev pub others_far : List ℕ → Bool
others_far [] = true
others_far (u ∷ sides) = is_empty (near u sides)

-- the longest of a side and further sides
abbrev pub longest : Reading → List Reading → Reading
longest x [] = x
longest x (y ∷ sides) = longest (cond (nat_lt (magnitude x) (magnitude y)) y x) sides

-- the pattern of a side's magnitude; a side that is no finite number has none
abbrev pub magnitude_pattern : {P : Type 0} → Encoding P → Reading → P
magnitude_pattern encoding (Finite negative k e) = encoding.written k e
magnitude_pattern encoding (Infinite negative) = encoding.plus_infinity
magnitude_pattern encoding QuietNan = encoding.quiet_nan
magnitude_pattern encoding SignallingNan = encoding.quiet_nan

abbrev pub zero_pattern : {P : Type 0} → Encoding P → P
zero_pattern encoding = encoding.written 0 0

abbrev pub longest_pattern : {P : Type 0} → Encoding P → List Reading → P
longest_pattern encoding [] = zero_pattern encoding
longest_pattern encoding (side ∷ sides) = magnitude_pattern encoding (longest side sides)

-- the first answer where there is one, else the second
abbrev pub or_else : {P : Type 0} → Option P → Option P → Option P
or_else (Some pattern) second = Some pattern
or_else None second = second

-- finite sides whose root is zero or a side: all zero gives plus zero; all but the largest far gives the largest magnitude;
-- a leg as long as its hypotenuse gives plus zero, and a far leg the hypotenuse
abbrev pub plain_root : {P : Type 0} → Encoding P → Asked → Option P
plain_root encoding (sum_of sides) =
    cond (all_zero sides) (Some (zero_pattern encoding))
    (cond (others_far (descending (magnitudes sides))) (Some (longest_pattern encoding sides)) None)
plain_root encoding (difference_of x y) =
    cond (magnitude x == magnitude y) (Some (zero_pattern encoding))
    (cond (is_far (magnitude x) (magnitude y)) (Some (magnitude_pattern encoding x)) None)

-- the pattern that answers in a plain case: first what comes to no number or to infinity, in the order of the outcome
abbrev pub plain : {P : Type 0} → Encoding P → Asked → Option P
plain encoding a = or_else (special_pattern encoding (outcome a)) (plain_root encoding a)
