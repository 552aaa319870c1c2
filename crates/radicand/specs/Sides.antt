-- Four times the radicand of a call, as a fraction: head-scaled x places / denominator d, where x / 4 ^ d is the
-- radicand in squares of significands of 53 bits.
-- The largest side has the significand m. Another side is n, and lies d binary places below; a third is k, and
-- lies e places below.
use Rattle.std.specs.Prelude.{ℕ, ◌+◌, ◌-◌, ◌*◌, ◌^◌}

-- the sum of two squares
unfoldable pub two_squares : ℕ → ℕ → ℕ → ℕ
two_squares m n d = m * m * 4 ^ d + n * n

-- the sum of three squares, over 4 ^ (d + e)
unfoldable pub three_squares : ℕ → ℕ → ℕ → ℕ → ℕ → ℕ
three_squares m n d k e = m * m * 4 ^ (d + e) + n * n * 4 ^ e + k * k * 4 ^ d

-- the difference of two squares
unfoldable pub leg_square : ℕ → ℕ → ℕ → ℕ
leg_square m n d = m * m * 4 ^ d - n * n

-- four times x in the scale of a head of so many places
unfoldable pub head_scaled : ℕ → ℕ → ℕ
head_scaled x places = x * 4 ^ (23 + places)

unfoldable pub denominator : ℕ → ℕ
denominator d = 4 ^ (52 + d)
