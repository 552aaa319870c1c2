-- Floats that are not negative, by their units.
use Rattle.std.specs.Prelude.{ℕ, false, Float}
use Rattle.std.specs.Float.Ieee.Exact.{HasValue}
use Rattle.floats.specs.Units.{unit}

-- x is finite, has a plus sign, and is g units
abbrev pub Holds : Float → ℕ → Type 0
Holds x g = HasValue x false g unit
