-- The whole part of a fraction, and whether that is all of it.
use Rattle.std.specs.Prelude.{◌≡◌, ℕ, ◌+◌, ◌*◌, ◌<◌, Bool, true, false, ◌≢◌}

-- n is the whole part of v / m, and cut tells whether there is a rest
pub record Truncates (n : ℕ) (cut : Bool) (v m : ℕ) : Type 0 where
  pub rest : ℕ
  pub whole : v ≡ n * m + rest
  pub short : rest < m
  pub is_cut : cut ≡ true → rest ≢ 0
  pub not_cut : cut ≡ false → rest ≡ 0
