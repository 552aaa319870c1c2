-- Float radicands: sums and differences of squares in floats, each operation rounded once, in the order written.
use Rattle.std.specs.Prelude.{ℕ, Float}
use Rattle.std.specs.Float.{binary64}
use Rattle.std.specs.Float.Ieee.{add, sub, mul}
use Rattle.head.specs.Side.{scaled_side}

-- x * x + y * y
abbrev pub two_squares : Float → Float → Float
two_squares x y = add binary64 (mul binary64 x x) (mul binary64 y y)

-- (x * x + y * y) + z * z
abbrev pub three_squares : Float → Float → Float → Float
three_squares x y z = add binary64 (two_squares x y) (mul binary64 z z)

-- (x - y) * (x + y), where x * x - y * y would lose the leading bits of close sides
abbrev pub squares_difference : Float → Float → Float
squares_difference x y = mul binary64 (sub binary64 x y) (add binary64 x y)

-- The same of sides: m is the largest, n lies d places below it, and k lies e places below it.

abbrev pub two_radicand : ℕ → ℕ → ℕ → Float
two_radicand m n d = two_squares (scaled_side m 0) (scaled_side n d)

abbrev pub three_radicand : ℕ → ℕ → ℕ → ℕ → ℕ → Float
three_radicand m n d k e = three_squares (scaled_side m 0) (scaled_side n d) (scaled_side k e)

abbrev pub leg_radicand : ℕ → ℕ → ℕ → Float
leg_radicand m n d = squares_difference (scaled_side m 0) (scaled_side n d)
