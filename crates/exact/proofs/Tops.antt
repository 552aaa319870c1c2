-- Roots above the largest value: they have its last place or a higher one, so they round to its significand or past it.
use Rattle.std.proofs.Common.{◌≡◌, ℕ, ◌+◌, ◌-◌, ◌*◌, ◌%◌, ◌^◌, ◌<◌, ◌≤◌, sym, ap, ◌∙◌, subst, inl, inr, le_trans, le_of_eq, mul-le-mul_right, le_antisymm, mul-lt-mul_of_pos_right, arith, pow_pos, pow-add}
use Rattle.std.proofs.lemmas.Nat.{mul-lt}
use Rattle.exact.specs.declared.form.Form.{Form}
use Rattle.exact.specs.Value.{InRange, units, largest_value}
use Rattle.exact.specs.Length.{Ulp, NearestWhole, kept, carried}
use Rattle.exact.specs.Nearest.{top_middle, RoundsAtTop, LengthAtTop}
use Rattle.exact.proofs.Squares.{squares_le, le_unless, lt_or_le, four_two, four_pos, two_le, two_half, square_at}
use Rattle.exact.proofs.Rounding.{nearest_whole_unique}
use Rattle.exact.proofs.Ulps.{significand_full}
use Rattle.exact.proofs.Nearness.{smaller}
use Rattle.exact.proofs.Values.{some_bits, carry_units}

module _ (form : Form) (ok : InRange form) (n k e : ℕ) (u : Ulp form.precision n e) (h : NearestWhole n e k) (b : largest_value form * largest_value form < n) where
  abbrev p : ℕ
  p = form.precision

  abbrev K : ℕ
  K = form.largest

  abbrev top : ℕ
  top = form.span

  -- the last place is not below the largest exponent
  top_least : top ≤ e
  top_least = le_unless top e (λ (g : e < top).
      let a : 2 ^ (p + e) ≤ 2 ^ (p - 1 + top) = two_le (p + e) (p - 1 + top) (omega (arith, g, some_bits form ok)) in
      let c : 2 ^ p * 2 ^ e ≤ largest_value form = omega (arith, a, pow-add 2 p e, pow-add 2 (p - 1) top, mul-le-mul_right (2 ^ top) ok.largest_least) in
      omega (arith, squares_le _ _ c, b, u.fits, square_at p e))

  square : 4 * (largest_value form * largest_value form) ≡ 2 * K * (2 * K) * 4 ^ top
  square = omega (arith, ap (λ (x : ℕ). K * K * x) (four_two top))

  -- up to the middle the last place is that of the largest value
  at_top : 4 * n ≤ top_middle form → e ≡ top
  at_top g = le_antisymm (u.least top fits) top_least
    where
      fits : n < 4 ^ (p + top)
      fits =
          let a : 2 * K + 1 < 2 * 2 ^ p = omega (arith, ok.largest_most) in
          let c : (2 * K + 1) * (2 * K + 1) * 4 ^ top < 2 * 2 ^ p * (2 * 2 ^ p) * 4 ^ top = mul-lt-mul_of_pos_right (mul-lt _ _ _ _ a a) (four_pos top) in
          let d : 4 ^ (p + top) ≡ 2 ^ p * 2 ^ p * 4 ^ top = pow-add 4 p top ∙ ap (λ (x : ℕ). x * 4 ^ top) (four_two p) in
          omega (arith, g, c, d)

  -- and the rounded root its significand, where that is even or the root lies below the middle
  rounds_to_largest : 4 * n ≤ top_middle form → (4 * n ≡ top_middle form → K % 2 ≡ 0) → k ≡ K
  rounds_to_largest g even =
      nearest_whole_unique n top k K (subst (λ (x : ℕ). NearestWhole n x k) (at_top g) h) (record {
        low = λ pos. omega (arith, under pos, square, b);
        high = g;
        even_low = λ pos q. absurd (omega (arith, under pos, square, b, q));
        even_high = even;
      })
    where
      under : 0 < K → (2 * K - 1) * (2 * K - 1) * 4 ^ top ≤ 2 * K * (2 * K) * 4 ^ top
      under pos = mul-le-mul_right (4 ^ top) (squares_le (2 * K - 1) (2 * K) (omega arith))

  -- past the middle, or on it where its significand is odd, it is larger
  rounds_past : top_middle form ≤ 4 * n → (4 * n ≡ top_middle form → K % 2 ≡ 1) → largest_value form < k * 2 ^ e
  rounds_past g odd =
      elim (lt_or_le top e) [
        | inl higher ↦
            let a = smaller p K top e (some_bits form ok) higher ok.largest_most in
            omega (arith, a, mul-le-mul_right (2 ^ e) (significand_full p n e u k (some_bits form ok) h (omega arith)))
        | inr lower ↦
            let q : e ≡ top = omega (arith, top_least) in
            let c : K < k = larger_significand (subst (λ (x : ℕ). NearestWhole n x k) q h) in
            let d : (K + 1) * 2 ^ e ≤ k * 2 ^ e = mul-le-mul_right (2 ^ e) (omega arith) in
            omega (arith, d, pow_pos e, ap (λ (x : ℕ). K * 2 ^ x) q)
      ]
    where
      larger_significand : NearestWhole n top k → K < k
      larger_significand m = Rattle.exact.proofs.Squares.lt_unless K k (λ (l : k ≤ K).
          let a : (2 * k + 1) * (2 * k + 1) * 4 ^ top ≤ top_middle form = mul-le-mul_right (4 ^ top) (squares_le (2 * k + 1) (2 * K + 1) (omega arith)) in
          let q : 4 * n ≡ top_middle form = le_antisymm (le_trans m.high a) g in
          let r : 4 * n ≡ (2 * k + 1) * (2 * k + 1) * 4 ^ top = le_antisymm m.high (le_trans a g) in
          let s : (2 * K + 1) * (2 * K + 1) * 4 ^ top ≤ (2 * k + 1) * (2 * k + 1) * 4 ^ top = le_trans g m.high in
          let t : 2 * K + 1 ≤ 2 * k + 1 = Rattle.exact.proofs.Squares.le_of_squares _ _ (native.Mathlib.Nat.le_of_mul-le-mul_right s (four_pos top)) in
          let same : k ≡ K = omega arith in
          omega (arith, m.even_high r, odd q, same))

rounds_at_top : (form : Form) → InRange form → (n k e : ℕ) → Ulp form.precision n e → NearestWhole n e k → largest_value form * largest_value form < n
    → (j f : ℕ) → units j f ≡ k * 2 ^ e → RoundsAtTop form n j f
rounds_at_top form ok n k e u h b j f same = record {
  below = λ g. same ∙ to_largest (omega arith) (λ q. absurd (omega arith));
  on_even = λ q even. same ∙ to_largest (le_of_eq q) (λ _. even);
  on_odd = λ q odd. past (le_of_eq (sym q)) (λ _. odd);
  above = λ g. past (omega arith) (λ q. absurd (omega arith));
}
  where
    to_largest : 4 * n ≤ top_middle form → (4 * n ≡ top_middle form → form.largest % 2 ≡ 0) → k * 2 ^ e ≡ largest_value form
    to_largest g even = (λ i. rounds_to_largest form ok n k e u h b g even i * 2 ^ at_top form ok n k e u h b g i)

    past : top_middle form ≤ 4 * n → (4 * n ≡ top_middle form → form.largest % 2 ≡ 1) → largest_value form < units j f
    past g odd = subst (λ (x : ℕ). largest_value form < x) (sym same) (rounds_past form ok n k e u h b g odd)

pub length_at_top : LengthAtTop
length_at_top form ok n k e (kept u h s) b = rounds_at_top form ok n k e u h b k e mathlib.Core.Path.refl
length_at_top form ok n k f (carried {e} P u h) b = rounds_at_top form ok n (2 ^ form.precision) e u h b k f (carry_units form.precision e P)
