-- What the sides of a right triangle come to before anything is rounded.
use Rattle.std.specs.Prelude.{ℕ, ◌+◌, ◌-◌, ◌*◌, Bool, false, cond, ◌||◌, List, [], ◌∷◌, nat_lt}
use Rattle.exact.specs.Value.{units}
use Rattle.forms.specs.declared.reading.Reading.{Reading}
use Rattle.forms.specs.declared.reading.Reading.TheVariants.{Finite, Infinite, QuietNan, SignallingNan}
use Rattle.forms.specs.Kinds.{is_signalling, is_infinite, is_quiet, is_nan}

pub data Outcome : Type 0 where
  not_a_number : Outcome
  infinite : Outcome
  -- the root of a whole number; the root counts units of the form's least exponent
  root_of : ℕ → Outcome

-- one of the sides is so
abbrev pub some : (Reading → Bool) → List Reading → Bool
some test [] = false
some test (side ∷ sides) = test side || some test sides

-- the magnitude of a finite side, in units of the least exponent
abbrev pub magnitude : Reading → ℕ
magnitude (Finite negative k e) = units k e
magnitude (Infinite negative) = 0
magnitude QuietNan = 0
magnitude SignallingNan = 0

abbrev pub sum_of_squares : List Reading → ℕ
sum_of_squares [] = 0
sum_of_squares (side ∷ sides) = magnitude side * magnitude side + sum_of_squares sides

-- the hypotenuse over these legs, or the resultant of these axes: a signalling NaN comes first, then an infinity,
-- which outweighs a quiet NaN, then a quiet NaN; finite sides have the root of the sum of their squares
abbrev pub hypot_outcome : List Reading → Outcome
hypot_outcome sides =
    cond (some is_signalling sides) not_a_number
    (cond (some is_infinite sides) infinite
    (cond (some is_quiet sides) not_a_number
    (root_of (sum_of_squares sides))))

abbrev pub difference_of_squares : Reading → Reading → ℕ
difference_of_squares x y = magnitude x * magnitude x - magnitude y * magnitude y

-- the other leg of a hypotenuse x and a leg y: a NaN of either kind comes first; a leg is not infinite, so an infinite y
-- gives none, and an infinite x with a finite y an infinite leg; nor is a leg longer than its hypotenuse
abbrev pub leg_outcome : Reading → Reading → Outcome
leg_outcome x y =
    cond (is_nan x || is_nan y) not_a_number
    (cond (is_infinite y) not_a_number
    (cond (is_infinite x) infinite
    (cond (nat_lt (magnitude x) (magnitude y)) not_a_number
    (root_of (difference_of_squares x y)))))
