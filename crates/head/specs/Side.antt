-- The sides as floats: each by a significand of 53 bits, and by how many binary places its leading bit lies below that of the largest side.
use Rattle.std.specs.Prelude.{ℕ, ◌+◌, ◌-◌, ◌*◌, ◌^◌, ◌<◌, ◌≤◌, false, Float}
use Rattle.std.specs.Int.Count.{count_leading_zeros}
use Rattle.std.specs.Float.{binary64}
use Rattle.std.specs.Float.Ieee.{round}

-- a significand of exactly 53 bits
pub record Full (m : ℕ) : Type 0 where
  pub least : 2 ^ 52 ≤ m
  pub most : m < 2 ^ 53

-- by how many places a shorter significand can move up within 53 of 64 bits
abbrev pub spare_places : ℕ → ℕ
spare_places k = count_leading_zeros 64 k - 11

-- the side m * 2 ^ -(52 + below), where the largest has nothing below and lies from 1 to 2; it is a float, so nothing is rounded
unfoldable pub scaled_side : ℕ → ℕ → Float
scaled_side m below = round binary64 false m (2 ^ (52 + below))

-- its bit pattern: the leading bit of m adds one to the exponent field
abbrev pub side_pattern : ℕ → ℕ → ℕ
side_pattern m below = (1022 - below) * 2 ^ 52 + m
