-- The exponent of the last place: it is one for each radicand, and bounds the rounded root from both sides.
use Rattle.std.proofs.Common.{◌≡◌, ℕ, ◌+◌, ◌-◌, ◌*◌, ◌/◌, ◌^◌, ◌<◌, ◌≤◌, sym, ap, ◌∙◌, subst, inl, inr, lt_of_lt_of_le, eq-zero-or-pos, le_antisymm, le_of_mul-le-mul_right, arith, pow_pos, pow-add}
use lib.Ieee.{size}
use lib.Ieee.Digits.{size-lt, size-le}
use Rattle.exact.specs.Length.{Ulp, NearestWhole, ulp_exponent}
use Rattle.exact.proofs.Squares.{le_of_squares, le_unless, four_two, two_le, square_at}

pub four_is : (m : ℕ) → 4 ^ m ≡ 2 ^ (2 * m)
four_is m = four_two m ∙ sym (pow-add 2 m m) ∙ ap (λ (x : ℕ). 2 ^ x) {x = m + m} {y = 2 * m} (omega arith)

pub ulp_exponent_is : (p n : ℕ) → Ulp p n (ulp_exponent p n)
unfolding ulp_exponent
ulp_exponent_is p n = record {
  fits =
      let e = (size n + 1) / 2 - p in
      let o : size n ≤ 2 * (p + e) = omega arith in
      subst (λ (x : ℕ). n < x) (sym (four_is (p + e))) (lt_of_lt_of_le (size-lt n) (two_le _ _ o));
  least = λ f h.
      let s : size n ≤ 2 * (p + f) = size-le n (2 * (p + f)) (subst (λ (x : ℕ). n < x) (four_is (p + f)) h) in
      omega arith;
}

pub ulp_unique : (p n e f : ℕ) → Ulp p n e → Ulp p n f → e ≡ f
ulp_unique p n e f a b = le_antisymm (a.least f b.fits) (b.least e a.fits)

-- the bounds of a rounded root as squares
pub low_square : (n e k : ℕ) → NearestWhole n e k → (2 * k - 1) * 2 ^ e * ((2 * k - 1) * 2 ^ e) ≤ 4 * n
low_square n e k h =
    elim (eq-zero-or-pos k) [
      | inl z ↦ let a : 2 * k - 1 ≡ 0 = omega arith in subst (λ (x : ℕ). x * 2 ^ e * (x * 2 ^ e) ≤ 4 * n) (sym a) (omega arith)
      | inr z ↦ omega (arith, h.low z, ap (λ (x : ℕ). (2 * k - 1) * (2 * k - 1) * x) (four_two e))
    ]

pub high_square : (n e k : ℕ) → NearestWhole n e k → 4 * n ≤ (2 * k + 1) * 2 ^ e * ((2 * k + 1) * 2 ^ e)
high_square n e k h = omega (arith, h.high, ap (λ (x : ℕ). (2 * k + 1) * (2 * k + 1) * x) (four_two e))

-- where the root is at most x * 2 ^ e, so is the rounded one
pub rounded_most : (n e k x : ℕ) → NearestWhole n e k → n ≤ x * 2 ^ e * (x * 2 ^ e) → k ≤ x
rounded_most n e k x h b =
    let a : (2 * k - 1) * 2 ^ e * ((2 * k - 1) * 2 ^ e) ≤ 2 * x * 2 ^ e * (2 * x * 2 ^ e) = omega (arith, low_square n e k h, b) in
    let c : 2 * k - 1 ≤ 2 * x = le_of_mul-le-mul_right (le_of_squares _ _ a) (pow_pos e) in
    omega arith

-- where the root is at least x * 2 ^ e, so is the rounded one
pub rounded_least : (n e k x : ℕ) → NearestWhole n e k → x * 2 ^ e * (x * 2 ^ e) ≤ n → x ≤ k
rounded_least n e k x h b =
    let a : 2 * x * 2 ^ e * (2 * x * 2 ^ e) ≤ (2 * k + 1) * 2 ^ e * ((2 * k + 1) * 2 ^ e) = omega (arith, high_square n e k h, b) in
    let c : 2 * x ≤ 2 * k + 1 = le_of_mul-le-mul_right (le_of_squares _ _ a) (pow_pos e) in
    omega arith

module _ (p n e : ℕ) (u : Ulp p n e) where
  -- above the least exponent the root has all p bits
  pub full_square : 1 ≤ p → 0 < e → 2 ^ (p - 1) * 2 ^ e * (2 ^ (p - 1) * 2 ^ e) ≤ n
  full_square P E =
      let a : 4 ^ (p + (e - 1)) ≤ n = le_unless _ _ (λ (g : n < 4 ^ (p + (e - 1))). omega (arith, u.least (e - 1) g)) in
      let b : 2 ^ (p + (e - 1)) ≡ 2 ^ (p - 1) * 2 ^ e = ap (λ (x : ℕ). 2 ^ x) {y = p - 1 + e} (omega arith) ∙ pow-add 2 (p - 1) e in
      subst (λ (x : ℕ). x ≤ n) (four_two (p + (e - 1)) ∙ ap (λ (x : ℕ). x * x) b) a

  pub significand_most : (k : ℕ) → NearestWhole n e k → k ≤ 2 ^ p
  significand_most k h = rounded_most n e k (2 ^ p) h (omega (arith, u.fits, square_at p e))

  pub significand_full : (k : ℕ) → 1 ≤ p → NearestWhole n e k → 0 < e → 2 ^ (p - 1) ≤ k
  significand_full k P h E = rounded_least n e k (2 ^ (p - 1)) h (full_square P E)
