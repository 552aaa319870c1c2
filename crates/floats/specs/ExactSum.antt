-- The sum of two floats as a pair of floats: the rounded sum, and what it lost.
use Rattle.std.specs.Prelude.{◌≡◌, T, ◌+ℤ◌, Float}
use Rattle.std.specs.Float.{binary64}
use Rattle.std.specs.Float.Ieee.{add, sub}
use Rattle.std.specs.Float.Ieee.Scale.{finite}
use Rattle.floats.specs.Units.{units}

-- hi is the rounded sum of a and b, and hi and lo together are the sum itself
pub record ExactSum (a b hi lo : Float) : Type 0 where
  pub rounded : hi ≡ add binary64 a b
  pub hi_finite : T (finite hi)
  pub lo_finite : T (finite lo)
  pub exact : units hi +ℤ units lo ≡ units a +ℤ units b

-- The steps that find what was lost, each rounded.

-- the part of the rounded sum that came from b, and the part that came from a
abbrev pub from_b : Float → Float → Float
from_b a b = sub binary64 (add binary64 a b) a

abbrev pub from_a : Float → Float → Float
from_a a b = sub binary64 (add binary64 a b) (from_b a b)

-- what was lost of b, of a, and of both
abbrev pub lost_of_b : Float → Float → Float
lost_of_b a b = sub binary64 b (from_b a b)

abbrev pub lost_of_a : Float → Float → Float
lost_of_a a b = sub binary64 a (from_a a b)

abbrev pub lost : Float → Float → Float
lost a b = add binary64 (lost_of_b a b) (lost_of_a a b)
