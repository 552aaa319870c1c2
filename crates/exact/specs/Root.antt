-- The floor root of a whole number.
use Rattle.std.specs.Prelude.{ℕ, zero, suc, ◌+◌, ◌*◌, ◌/◌, ◌<◌, ◌≤◌, cond, nat_le}
use Rattle.std.specs.Float.Ieee.{size}

-- r is the largest whole number whose square is at most n
pub record FloorRoot (n r : ℕ) : Type 0 where
  pub low : r * r ≤ n
  pub high : n < (r + 1) * (r + 1)

-- one more binary digit of a floor root, from the floor root r of a quarter of n
abbrev pub next_digit : ℕ → ℕ → ℕ
next_digit n r = cond (nat_le ((2 * r + 1) * (2 * r + 1)) n) (2 * r + 1) (2 * r)

-- the floor root of an n below 4 ^ digits
unfoldable pub root_by_digits : ℕ → ℕ → ℕ
root_by_digits zero n = 0
root_by_digits (suc digits) n = next_digit n (root_by_digits digits (n / 4))

-- the floor root, computed: n has size n bits
unfoldable pub isqrt : ℕ → ℕ
isqrt n = root_by_digits (size n) n
