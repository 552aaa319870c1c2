-- A magnitude brought to full length.
use Rattle.std.specs.Prelude.{◌≡◌, ℕ, ◌*◌, ◌^◌, ◌≤◌}
use Rattle.std.specs.Float.Ieee.{size}

-- the magnitude u, which has so many bits, is m * 2 ^ bits / 2 ^ 53; so m has 53 bits unless u is zero
abbrev pub Sized : ℕ → ℕ → ℕ → Type 0
Sized u m bits = (m * 2 ^ bits ≡ u * 2 ^ 53) × (bits ≡ size u) × (bits ≤ 4053)
