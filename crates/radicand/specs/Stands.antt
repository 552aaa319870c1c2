-- What a radicand in words stands for.
use Rattle.std.specs.Prelude.{◌≡◌, ℕ, ◌+◌, ◌*◌, ◌/◌, ◌%◌, ◌^◌, ◌<◌, true, false, ◌≢◌}
use Rattle.radicand.specs.declared.words.Radicand.{Radicand}

-- the number in two words
abbrev pub whole : ℕ → ℕ → ℕ
whole hi lo = hi * 2 ^ 64 + lo

-- the whole part of the radicand itself
abbrev pub radicand_floor : Radicand → ℕ
radicand_floor r = whole r.hi r.lo

-- the words stand for the fraction v / m, which is four times a radicand
pub record Stands (r : Radicand) (v m : ℕ) : Type 0 where
  pub positive : 0 < m
  pub bits_short : r.bits < 4
  -- the words and bits are its whole part
  pub floor : v / m ≡ 4 * radicand_floor r + r.bits
  -- and it has another part exactly where something was cut off
  pub is_cut : r.cut ≡ true → v % m ≢ 0
  pub not_cut : r.cut ≡ false → v % m ≡ 0
