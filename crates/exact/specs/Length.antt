-- The length: the root of a radicand n, rounded to p bits, to nearest, ties to even.
use Rattle.std.specs.Prelude.{◌≡◌, ℕ, ◌+◌, ◌-◌, ◌*◌, ◌/◌, ◌%◌, ◌^◌, ◌<◌, ◌≤◌, Bool, cond, ◌&&◌, ◌==◌, nat_lt}
use Rattle.std.specs.Float.Ieee.{size}
use Rattle.exact.specs.Root.{isqrt}

-- 2 ^ e is the place of the last of the p bits that the root of n is rounded to:
-- e is the least exponent at which the root is below 2 ^ (p + e)
pub record Ulp (p n e : ℕ) : Type 0 where
  pub fits : n < 4 ^ (p + e)
  pub least : (f : ℕ) → n < 4 ^ (p + f) → e ≤ f

-- in units of 2 ^ e the root of n lies between k - 1/2 and k + 1/2, and k is even where it lies on one of them;
-- below k = 0 there is nothing to keep to
pub record NearestWhole (n e k : ℕ) : Type 0 where
  pub low : 0 < k → (2 * k - 1) * (2 * k - 1) * 4 ^ e ≤ 4 * n
  pub high : 4 * n ≤ (2 * k + 1) * (2 * k + 1) * 4 ^ e
  pub even_low : 0 < k → (2 * k - 1) * (2 * k - 1) * 4 ^ e ≡ 4 * n → k % 2 ≡ 0
  pub even_high : 4 * n ≡ (2 * k + 1) * (2 * k + 1) * 4 ^ e → k % 2 ≡ 0

-- k * 2 ^ e is the length of the root of n at the precision p
pub data Length (p n : ℕ) : ℕ → ℕ → Type 0 where
  kept : {k e : ℕ} → Ulp p n e → NearestWhole n e k → k < 2 ^ p → Length p n k e
  -- 2 ^ p is one bit too long, and the same number is 2 ^ (p - 1) one exponent up
  carried : {e : ℕ} → 1 ≤ p → Ulp p n e → NearestWhole n e (2 ^ p) → Length p n (2 ^ (p - 1)) (e + 1)

-- The same, computed.

unfoldable pub ulp_exponent : ℕ → ℕ → ℕ
ulp_exponent p n = (size n + 1) / 2 - p

-- the nearest whole number to half of d, at a tie the even one; where d is not exact, to half of a little more than d
abbrev pub half_to_even : ℕ → Bool → ℕ
half_to_even d exact = cond (exact && d % 2 == 1) ((d / 2 + 1) / 2 * 2) ((d + 1) / 2)

-- d is the floor of twice the root in units of 2 ^ e
abbrev pub rounded_from : ℕ → ℕ → ℕ → ℕ
rounded_from n e d = half_to_even d (d * d * 4 ^ e == 4 * n)

-- the nearest whole number to the root of n in units of 2 ^ e
unfoldable pub rounded_root : ℕ → ℕ → ℕ
rounded_root n e = rounded_from n e (isqrt (4 * n / 4 ^ e))

-- the floor root r of n, or the next number where the residual n - r * r is above r
abbrev pub nearer_root : ℕ → ℕ → ℕ
nearer_root n r = cond (nat_lt r (n - r * r)) (r + 1) r

-- k is one bit too long
abbrev pub carries : ℕ → ℕ → Bool
carries p k = k == 2 ^ p

unfoldable pub length_significand : ℕ → ℕ → ℕ
length_significand p n = cond (carries p (rounded_root n (ulp_exponent p n))) (2 ^ (p - 1)) (rounded_root n (ulp_exponent p n))

unfoldable pub length_exponent : ℕ → ℕ → ℕ
length_exponent p n = cond (carries p (rounded_root n (ulp_exponent p n))) (ulp_exponent p n + 1) (ulp_exponent p n)
