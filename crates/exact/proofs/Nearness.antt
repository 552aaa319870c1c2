-- A root rounded at its own last place is nearest among all numbers of at most p bits, whatever their exponents:
-- those of larger exponents are multiples of 2 ^ e, and those of smaller ones lie below 2 ^ (p - 1 + e).
use Rattle.std.proofs.Common.{◌≡◌, ℕ, ◌+◌, ◌-◌, ◌*◌, ◌%◌, ◌^◌, ◌<◌, ◌≤◌, ◌⊎◌, sym, ap, subst, inl, inr, mul-le-mul_right, lt_of_mul-lt-mul_right, eq-or-lt_of_le, mul-lt-mul_of_pos_right, arith, pow_pos, pow-add}
use Rattle.std.proofs.lemmas.Nat.{mul-lt}
use Rattle.exact.specs.Length.{Ulp, NearestWhole}
use Rattle.exact.specs.Nearest.{AtLeastAsFar}
use Rattle.exact.proofs.Squares.{squares_le, lt_or_le, four_two, two_le, multiple}
use Rattle.exact.proofs.Ulps.{low_square, high_square, full_square, significand_full}

-- a number of at most p bits and a smaller exponent lies below 2 ^ (p - 1 + e)
pub smaller : (p j f e : ℕ) → 1 ≤ p → f < e → j < 2 ^ p → j * 2 ^ f < 2 ^ (p - 1) * 2 ^ e
smaller p j f e P F b =
    let a : j * 2 ^ f < 2 ^ p * 2 ^ f = mul-lt-mul_of_pos_right b (pow_pos f) in
    let d : 2 ^ (p + f) ≤ 2 ^ (p - 1 + e) = two_le (p + f) (p - 1 + e) (omega arith) in
    omega (arith, a, d, pow-add 2 p f, pow-add 2 (p - 1) e)

module _ (p n k e : ℕ) (P : 1 ≤ p) (u : Ulp p n e) (h : NearestWhole n e k) where
  abbrev ulp : ℕ
  ulp = 2 ^ e

  abbrev half : ℕ
  half = 2 ^ (p - 1)

  -- a larger number reaches to k + 1, so the middle is at least k + 1/2
  above : (j f : ℕ) → j < 2 ^ p → k * ulp < j * 2 ^ f → (2 * k + 1) * ulp ≤ k * ulp + j * 2 ^ f
  above j f short g =
      elim (lt_or_le f e) [
        | inl F ↦ absurd (omega (arith, smaller p j f e P F short, mul-le-mul_right ulp (significand_full p n e u k P h (omega arith))))
        | inr F ↦
            let m = multiple j e f F in
            subst (λ (x : ℕ). (2 * k + 1) * ulp ≤ k * ulp + x) (sym m.1) (up m.0 (subst (λ (x : ℕ). k * ulp < x) m.1 g))
      ]
    where
      up : (m : ℕ) → k * ulp < m * ulp → (2 * k + 1) * ulp ≤ k * ulp + m * ulp
      up m g =
          let a : k < m = lt_of_mul-lt-mul_right ulp g in
          let b : (k + 1) * ulp ≤ m * ulp = mul-le-mul_right ulp (omega arith) in
          omega (arith, b)

  -- a smaller number reaches to k - 1, so the middle is at most k - 1/2; or the exponents part at k, and the middle lies below the root
  below : (j f : ℕ) → j < 2 ^ p → j * 2 ^ f < k * ulp
      → (k * ulp + j * 2 ^ f ≤ (2 * k - 1) * ulp) ⊎ ((k * ulp + j * 2 ^ f) * (k * ulp + j * 2 ^ f) < 4 * n)
  below j f short g =
      elim (lt_or_le f e) [
        | inl F ↦ parted F (lt_or_le half k)
        | inr F ↦
            let m = multiple j e f F in
            inl (subst (λ (x : ℕ). k * ulp + x ≤ (2 * k - 1) * ulp) (sym m.1) (down m.0 (subst (λ (x : ℕ). x < k * ulp) m.1 g)))
      ]
    where
      down : (m : ℕ) → m * ulp < k * ulp → k * ulp + m * ulp ≤ (2 * k - 1) * ulp
      down m g =
          let a : m < k = lt_of_mul-lt-mul_right ulp g in
          let b : (k + m) * ulp ≤ (2 * k - 1) * ulp = mul-le-mul_right ulp (omega arith) in
          omega (arith, b)

      parted : f < e → (half < k) ⊎ (k ≤ half) → (k * ulp + j * 2 ^ f ≤ (2 * k - 1) * ulp) ⊎ ((k * ulp + j * 2 ^ f) * (k * ulp + j * 2 ^ f) < 4 * n)
      parted F (inl b) =
          let s = smaller p j f e P F short in
          let a : half * ulp ≤ (k - 1) * ulp = mul-le-mul_right ulp (omega arith) in
          let d : (k + (k - 1)) * ulp ≤ (2 * k - 1) * ulp = mul-le-mul_right ulp (omega arith) in
          inl (omega (arith, a, s, d))
      parted F (inr b) =
          let E : 0 < e = omega arith in
          let s = smaller p j f e P F short in
          let a : k ≡ half = omega (arith, significand_full p n e u k P h E) in
          let c : k * ulp ≡ half * ulp = ap (λ (x : ℕ). x * ulp) a in
          let lt : k * ulp + j * 2 ^ f < 2 * (half * ulp) = omega (arith, s, c) in
          let d = mul-lt _ _ _ _ lt lt in
          inr (omega (arith, d, full_square p n e u P E))

  pub as_far : (j f : ℕ) → j < 2 ^ p → AtLeastAsFar n (k * ulp) (j * 2 ^ f)
  as_far j f short = record {
    above = λ g. omega (arith, high_square n e k h, squares_le _ _ (above j f short g));
    below = λ g. elim (below j f short g) [
      | inl b ↦ omega (arith, low_square n e k h, squares_le _ _ b)
      | inr b ↦ omega (arith, b)
    ];
  }

  even_above : 4 * n ≡ (2 * k + 1) * ulp * ((2 * k + 1) * ulp) → k % 2 ≡ 0
  even_above q = h.even_high (omega (arith, q, ap (λ (x : ℕ). (2 * k + 1) * (2 * k + 1) * x) (four_two e)))

  even_below : 0 < k → (2 * k - 1) * ulp * ((2 * k - 1) * ulp) ≡ 4 * n → k % 2 ≡ 0
  even_below pos q = h.even_low pos (omega (arith, q, ap (λ (x : ℕ). (2 * k - 1) * (2 * k - 1) * x) (four_two e)))

  pub tie_even : (j f : ℕ) → j < 2 ^ p → (k * ulp ≡ j * 2 ^ f → ⊥) → (k * ulp + j * 2 ^ f) * (k * ulp + j * 2 ^ f) ≡ 4 * n → k % 2 ≡ 0
  tie_even j f short other q =
      elim (lt_or_le (k * ulp) (j * 2 ^ f)) [
        | inl g ↦ even_above (omega (arith, high_square n e k h, squares_le _ _ (above j f short g), q))
        | inr g ↦ under (eq-or-lt_of_le g)
      ]
    where
      positive : j * 2 ^ f < k * ulp → 0 < k
      positive g = lt_of_mul-lt-mul_right ulp (omega arith)

      under : (j * 2 ^ f ≡ k * ulp) ⊎ (j * 2 ^ f < k * ulp) → k % 2 ≡ 0
      under (inl s) = absurd (other (sym s))
      under (inr g) =
          elim (below j f short g) [
            | inl b ↦ even_below (positive g) (omega (arith, low_square n e k h, squares_le _ _ b, q))
            | inr b ↦ absurd (omega (arith, b, q))
          ]
