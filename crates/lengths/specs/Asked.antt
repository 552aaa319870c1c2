-- What a call asks for, by the readings of its patterns.
use Rattle.std.specs.Prelude.{ℕ, List, [], ◌∷◌, map, Float}
use Rattle.forms.specs.declared.reading.Reading.{Reading}
use Rattle.forms.specs.Encoding.{Encoding}
use Rattle.sides.specs.Order.{descending, first}
use Rattle.sides.specs.HeadSum.{head_sum, head_difference}
use Rattle.lengths.specs.declared.call.Call.{Call}
use Rattle.lengths.specs.declared.call.Call.TheVariants.{Hypot, Cathetus, ThreeSides}
use Rattle.triangle.specs.Outcome.{Outcome, magnitude, sum_of_squares, difference_of_squares, hypot_outcome, leg_outcome}

pub data Asked : Type 0 where
  -- the root of the sum of the squares of these sides
  sum_of : List Reading → Asked
  -- the root of the difference of the squares of a hypotenuse and a leg
  difference_of : Reading → Reading → Asked

abbrev pub asked : {P : Type 0} → Encoding P → Call P → Asked
asked encoding (Hypot x y) = sum_of (encoding.reading x ∷ encoding.reading y ∷ [])
asked encoding (Cathetus x y) = difference_of (encoding.reading x) (encoding.reading y)
asked encoding (ThreeSides x y z) = sum_of (encoding.reading x ∷ encoding.reading y ∷ encoding.reading z ∷ [])

-- what it comes to
abbrev pub outcome : Asked → Outcome
outcome (sum_of sides) = hypot_outcome sides
outcome (difference_of x y) = leg_outcome x y

abbrev pub magnitudes : List Reading → List ℕ
magnitudes sides = map magnitude sides

-- the radicand of finite sides, in squares of units of the least exponent
abbrev pub radicand : Asked → ℕ
radicand (sum_of sides) = sum_of_squares sides
radicand (difference_of x y) = difference_of_squares x y

-- the largest magnitude
abbrev pub largest : Asked → ℕ
largest (sum_of sides) = first (descending (magnitudes sides))
largest (difference_of x y) = magnitude x

-- the radicand in floats, of which the head is taken
abbrev pub head_of : Asked → Float
head_of (sum_of sides) = head_sum (magnitudes sides)
head_of (difference_of x y) = head_difference (magnitude x) (magnitude y)
