-- The floats that the code writes: 1/2, 2 ^ 22 and 2 ^ 32.
use Rattle.std.specs.Prelude.{◌≡◌, ℕ, ◌*◌, ◌^◌, false, refl}
use Rattle.std.specs.Float.{binary64}
use Rattle.std.specs.Float.Ieee.{of_bits}
use Rattle.std.specs.Float.Ieee.Exact.{HasValue}
use Rattle.floats.specs.Units.{unit}
use Rattle.floats.specs.Holds.{Holds}

-- half of a unit count
pub record Halved : Type 0 where
  pub count : ℕ
  pub holds : Holds (of_bits binary64 0x3fe0_0000_0000_0000) count
  pub twice : count * 2 ≡ unit

pub half : Halved
unfolding of_bits unit
half = record { count = 2 ^ 1073; holds = (refl, refl); twice = refl }

pub scale_holds : Holds (of_bits binary64 0x4150_0000_0000_0000) (2 ^ 22 * unit)
unfolding of_bits unit
scale_holds = (refl, refl)

pub place_value : HasValue (of_bits binary64 0x41f0_0000_0000_0000) false (2 ^ 32) 1
unfolding of_bits
place_value = (refl, refl)
