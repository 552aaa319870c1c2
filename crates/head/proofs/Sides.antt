-- A scaled side in units: it has at most 53 bits, so it is a float, and nothing is rounded.
use Rattle.std.proofs.Common.{◌≡◌, ℕ, ◌+◌, ◌-◌, ◌*◌, ◌^◌, ◌<◌, ◌≤◌, false, not, T, sym, ap, ◌∙◌, subst, lt_of_lt_of_le, mul_assoc, mul-le-mul_left, arith, pow_pos, pow_mono, pow-add, shl_lt}
use lib.Ieee.{binary64, round, of_bits, nan_bits}
use lib.Ieee.Bits.{of_bits-fits}
use lib.Ieee.Exact.{round_exact}
use lib.Ieee.Fits.{round-fits}
use Rattle.floats.specs.Units.{unit}
use Rattle.floats.specs.Holds.{Holds}
use Rattle.floats.proofs.Fractions.{rescale}
use Rattle.head.specs.Side.{Full, scaled_side, side_pattern}
use Rattle.head.proofs.Patterns.{no_nan, normal_pattern, same_float}

-- how many units the last bit of a side's significand is
unfoldable pub step : ℕ → ℕ
step below = 2 ^ (1022 - below)

spans : (d : ℕ) → d ≤ 28 → step d * 2 ^ (52 + d) ≡ unit
unfolding unit step
spans d l = let e : (1022 - d) + (52 + d) ≡ 1074 = omega arith in sym (pow-add 2 (1022 - d) (52 + d)) ∙ ap (λ (y : ℕ). 2 ^ y) e

pub span : (d : ℕ) → d ≤ 28 → step d * (2 ^ 52 * 2 ^ d) ≡ unit
span d l = ap (λ (y : ℕ). step d * y) (sym (pow-add 2 52 d)) ∙ spans d l

pub side_holds : (m d : ℕ) → Full m → d ≤ 28 → Holds (scaled_side m d) (m * step d)
unfolding scaled_side unit step
side_holds m d f l =
    let s : m * 2 ^ 1074 ≡ m * step d * 2 ^ (52 + d) = ap (λ (y : ℕ). m * y) (sym (spans d l)) ∙ sym (mul_assoc m (step d) (2 ^ (52 + d))) in
    rescale (round binary64 false m (2 ^ (52 + d))) false m (2 ^ (52 + d)) (m * step d) (2 ^ 1074) (pow_pos (52 + d)) (sym s)
    (round_exact binary64 false m (2 ^ (52 + d)) m (1022 - d) (pow_pos (52 + d)) f.most (lt_of_lt_of_le (shl_lt 53 (1022 - d) f.most) (pow_mono {i = 53 + (1022 - d)} {j = 2098} (omega arith))) s)

-- the pattern that the code writes
module _ (bits m d : ℕ) (full : Full m) (close : d ≤ 28) (e : bits ≡ side_pattern m d) where
  pub pattern_number : T (not (nan_bits binary64 bits))
  pattern_number = subst (λ (b : ℕ). T (not (nan_bits binary64 b))) (sym e) (no_nan (1022 - d) m (omega arith) full.most)

  pub pattern_side : of_bits binary64 bits ≡ scaled_side m d
  unfolding scaled_side step
  pattern_side =
      ap (of_bits binary64) e
      ∙ same_float (of_bits binary64 (side_pattern m d)) (scaled_side m d) (m * step d) (of_bits-fits binary64 (side_pattern m d)) (round-fits binary64 false m (2 ^ (52 + d)))
      (normal_pattern (1022 - d) m (omega arith) full.least full.most) (side_holds m d full close)

-- A side lies from 2 ^ -28 to 2, and the largest from 1. V is its step and E is 2 ^ below.

module _ (m V E : ℕ) (full : Full m) (e : V * (2 ^ 52 * E) ≡ unit) where
  pub side_low : E ≤ 2 ^ 28 → unit ≤ m * V * 2 ^ 28
  side_low l = omega (arith, mul-le-mul_left (V * 2 ^ 52) l, mul-le-mul_left V full.least)

  pub side_high : 0 < E → m * V ≤ 2 * unit
  side_high l = omega (arith, mul-le-mul_left (V * 2 ^ 52) l, mul-le-mul_left V full.most)

  pub side_one : E ≤ 1 → unit ≤ m * V
  side_one l = omega (arith, mul-le-mul_left (V * 2 ^ 52) l, mul-le-mul_left V full.least)
