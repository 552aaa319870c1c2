-- The rounded root of a radicand in words.
use Rattle.std.specs.Prelude.{◌≡◌, ℕ, ◌+◌, ◌-◌, ◌*◌, ◌^◌, max, Bool, cond}
use Rattle.std.specs.Float.Ieee.{size}
use Rattle.exact.specs.Root.{isqrt}
use Rattle.exact.specs.Length.{Length}
use Rattle.radicand.specs.declared.words.Radicand.{Radicand}
use Rattle.radicand.specs.Stands.{radicand_floor, Stands}
use Rattle.walk.specs.declared.rounded.Rounded.{Rounded}

-- the root of four times a radicand: its floor root with one digit more
abbrev pub longer_root : Radicand → ℕ
longer_root radicand = isqrt (4 * radicand_floor radicand + radicand.bits)

-- how many bits of a root are dropped: so many that p are left, and no fewer than the least number
abbrev pub dropped_bits : ℕ → ℕ → ℕ → ℕ
dropped_bits p least root = max (size root - p) least

-- n is the fraction v / m in another scale
pub record Scaled (n e v m dropped least : ℕ) : Type 0 where
  -- its root in units of 2 ^ e is the root of v / m in units of 2 ^ dropped
  pub scale : n * 4 ^ dropped * m ≡ v * 4 ^ e
  -- where only the least number of bits is dropped, the exponent is the least one
  pub least_exponent : dropped ≡ least → e ≡ 0

-- the exponent, one more after a carry
abbrev pub after_carry : Bool → ℕ → ℕ
after_carry carried e = cond carried (e + 1) e

-- the answer is the length of the root of every n that the radicand stands for
abbrev pub RoundsTo : ℕ → ℕ → Radicand → Rounded → Type 0
RoundsTo p least radicand r =
    (n e v m : ℕ) → Stands radicand v m → Scaled n e v m r.dropped least
    → Length p n r.significand (after_carry r.carried e)
