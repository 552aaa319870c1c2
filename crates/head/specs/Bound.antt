-- How near the root of a head is to that of the exact radicand.
use Rattle.std.specs.Prelude.{ℕ, ◌+◌, ◌-◌, ◌*◌, ◌^◌, ◌<◌, ◌≤◌}
use Rattle.exact.specs.Root.{FloorRoot}

-- t is the largest whole number whose square is at most b / c
pub record FloorRootOf (b c t : ℕ) : Type 0 where
  pub low : t * t * c ≤ b
  pub high : b < (t + 1) * (t + 1) * c

-- s and t are at most four apart
pub record WithinFour (s t : ℕ) : Type 0 where
  pub above : t ≤ s + 4
  pub below : s ≤ t + 4

-- The exact radicands of the sides: m is the largest, n lies d places below it, and k lies e places below it.

-- times 4 ^ (52 + d)
abbrev pub two_exact : ℕ → ℕ → ℕ → ℕ
two_exact m n d = m * m * 4 ^ d + n * n

-- times 4 ^ (52 + d + e)
abbrev pub three_exact : ℕ → ℕ → ℕ → ℕ → ℕ → ℕ
three_exact m n d k e = m * m * 4 ^ (d + e) + n * n * 4 ^ e + k * k * 4 ^ d

-- times 4 ^ (52 + d)
abbrev pub leg_exact : ℕ → ℕ → ℕ → ℕ
leg_exact m n d = m * m * 4 ^ d - n * n

-- for the radicand n / 4 ^ scale: its floor root t in the word's scale, where the radicand is taken times 4 ^ places and then,
-- as the word is, times 4 ^ 22, is at most four from the word's floor root s
abbrev pub NearRoot : ℕ → ℕ → ℕ → ℕ → Type 0
NearRoot n scale word places =
    (s t : ℕ) → FloorRoot (word * 2 ^ 44) s → FloorRootOf (n * 4 ^ (22 + places)) (4 ^ scale) t → WithinFour s t

-- a third side below 2 ^ -27 of the largest may be left out of the word, though not of the exact radicand
abbrev pub NearWithoutThird : ℕ → ℕ → ℕ → ℕ → ℕ → Type 0
NearWithoutThird m n d word places =
    (k e : ℕ) → k * 2 ^ 27 < m * 2 ^ e → NearRoot (three_exact m n d k e) (52 + d + e) word places
