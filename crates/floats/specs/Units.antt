-- Floats as whole multiples of the smallest positive one, 2 ^ -1074, so that their sums are exact.
use Rattle.std.specs.Prelude.{ℕ, ◌*◌, ◌/◌, ◌^◌, ◌≤◌, Bool, cond, T, ℤ, pos, neg_ℤ, unsigned_abs, Float}
use Rattle.std.specs.Float.{nan, inf, fin}
use Rattle.std.specs.Float.Ieee.{up, down}
use Rattle.std.specs.Float.Ieee.Scale.{finite}

-- one is this many units
unfoldable pub unit : ℕ
unit = 2 ^ 1074

-- 2 ^ 1000 in units
unfoldable pub most : ℕ
most = 2 ^ 2074

abbrev pub signed : Bool → ℕ → ℤ
signed negative n = cond negative (neg_ℤ (pos n)) (pos n)

-- how many units a finite float is; the division is exact for every binary64 number
unfoldable pub units : Float → ℤ
units nan = pos 0
units (inf s) = pos 0
units (fin s m e) = signed s (m * up e * unit / down e)

-- x is finite, and at most 2 ^ 1000 in size, so that a few such numbers can be summed
pub record Moderate (x : Float) : Type 0 where
  pub number : T (finite x)
  pub size : unsigned_abs (units x) ≤ most
