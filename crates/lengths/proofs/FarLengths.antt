-- A side far below another moves the root by less than half a unit of the last place: the length is the longer side.
use Rattle.std.proofs.Common.{◌≡◌, ℕ, ◌+◌, ◌-◌, ◌*◌, ◌^◌, ◌<◌, ◌≤◌, ◌⊎◌, sym, ap, ◌∙◌, subst, inl, inr, le_trans, lt_of_le_of_lt, mul-le-mul_right, eq-zero-or-pos, mul-le-mul, lt_of_mul-lt-mul_right, eq-or-lt_of_le, mul-le-mul_left, mul-lt-mul_of_pos_right, arith, pow_pos, pow-add}
use Rattle.exact.specs.declared.form.Form.{Form}
use Rattle.exact.specs.Value.{Value, InRange, units}
use Rattle.exact.specs.Length.{NearestWhole, Length, kept, carried}
use Rattle.exact.proofs.Squares.{four_two, four_pos, two_le, two_half, square_at, lt_unless, le_unless}
use Rattle.exact.proofs.Values.{value_is_length}
use Rattle.head.proofs.Powers.{four_more}

-- the square of a value k * 2 ^ e
square : (k e : ℕ) → units k e * units k e ≡ k * k * 4 ^ e
square k e = omega (arith, ap (λ (x : ℕ). k * k * x) (four_two e))

-- what is below 2 ^ -53 of the square of P * 2 ^ e is below P units of 4 ^ e, as P has at most 53 bits
below_units : (P e r : ℕ) → P ≤ 2 ^ 53 → r * 2 ^ 53 < P * P * 4 ^ e → r < P * 4 ^ e
below_units P e r s h =
    let a : P * P * 4 ^ e ≤ P * 2 ^ 53 * 4 ^ e = mul-le-mul_right (4 ^ e) (mul-le-mul_left P s) in
    lt_of_mul-lt-mul_right (2 ^ 53) (omega (arith, h, a))

-- squares of odd numbers around 2 * k, in units
low_square : (k F : ℕ) → 0 < k → (2 * k - 1) * (2 * k - 1) * F + (4 * k - 1) * F ≡ 4 * (k * k * F)
low_square k F h =
    let j = 2 * k - 1 in
    let e : j + 1 ≡ 2 * k = omega arith in
    let q : 4 * k - 1 ≡ 2 * j + 1 = omega arith in
    let s : (j + 1) * (j + 1) ≡ 2 * k * (2 * k) = λ i. e i * e i in
    omega (arith, ap (λ (x : ℕ). x * F) s, ap (λ (x : ℕ). x * F) q)

-- the root of n lies strictly within half a unit of k
strictly_near : (n e k : ℕ) → (0 < k → 4 * (k * k * 4 ^ e) < 4 * n + (4 * k - 1) * 4 ^ e) → 4 * n < 4 * (k * k * 4 ^ e) + (4 * k + 1) * 4 ^ e → NearestWhole n e k
strictly_near n e k lo hi = record {
  low = λ h. omega (arith, lo h, low_square k (4 ^ e) h);
  high = omega (arith, hi);
  even_low = λ h q. absurd (omega (arith, lo h, low_square k (4 ^ e) h, q));
  even_high = λ q. absurd (omega (arith, hi, q));
}

module _ (form : Form) (ok : InRange form) (k e : ℕ) (v : Value form k e) where
  abbrev p : ℕ
  p = form.precision

  abbrev u : ℕ
  u = units k e

  some_bits : 1 ≤ p
  some_bits = omega (arith, ok.precision_least)

  short : k ≤ 2 ^ 53
  short = le_trans (omega (arith, v.short)) (two_le p 53 ok.precision_most)

  -- 4 ^ (p + e) is the square of 2 ^ p in units
  top : 4 ^ (p + e) ≡ 2 ^ p * 2 ^ p * 4 ^ e
  top = omega (arith, square_at p e, ap (λ (x : ℕ). 2 ^ p * 2 ^ p * x) (four_two e))

  -- at a lower exponent f the root would be too long
  lower : (f : ℕ) → f < e → 4 ^ (p + f) ≤ 2 ^ (p - 1) * 2 ^ (p - 1) * 4 ^ e
  lower f h =
      let a : 2 ^ (p + f) ≤ 2 ^ (p - 1 + e) = two_le (p + f) (p - 1 + e) (omega (arith, some_bits)) in
      let b : 2 ^ (p + f) * 2 ^ (p + f) ≤ 2 ^ (p - 1 + e) * 2 ^ (p - 1 + e) = mul-le-mul a a in
      let c : 2 ^ (p - 1 + e) * 2 ^ (p - 1 + e) ≡ 2 ^ (p - 1) * 2 ^ (p - 1) * 4 ^ e =
      (λ i. pow-add 2 (p - 1) e i * pow-add 2 (p - 1) e i) ∙ omega (arith, ap (λ (x : ℕ). 2 ^ (p - 1) * 2 ^ (p - 1) * x) (four_two e)) in
      omega (arith, four_two (p + f), b, c)

  positive : (x : ℕ) → x < u * u → 0 < k
  positive x h =
      lt_unless 0 k (λ (o : k ≤ 0).
      let z : k ≡ 0 = omega arith in
      omega (arith, h, square k e, ap (λ (j : ℕ). j * j * 4 ^ e) z))

  -- a little more than the square
  module _ (r : ℕ) (h : r * 2 ^ 53 < u * u) where
    small : 0 < k → r < k * 4 ^ e
    small g = below_units k e r short (omega (arith, h, square k e))

    nonzero : 0 < k
    nonzero = positive (r * 2 ^ 53) h

    above_fits : u * u + r < 4 ^ (p + e)
    above_fits =
        let a : k * (k + 1) ≤ k * 2 ^ p = mul-le-mul_left k (let o : k + 1 ≤ 2 ^ p = omega (arith, v.short) in o) in
        let b : k * 2 ^ p < 2 ^ p * 2 ^ p = mul-lt-mul_of_pos_right v.short (pow_pos p) in
        let c : k * (k + 1) < 2 ^ p * 2 ^ p = lt_of_le_of_lt a b in
        let d : k * (k + 1) * 4 ^ e < 2 ^ p * 2 ^ p * 4 ^ e = mul-lt-mul_of_pos_right c (four_pos e) in
        omega (arith, d, square k e, small nonzero, top)

    above_least : (f : ℕ) → u * u + r < 4 ^ (p + f) → e ≤ f
    above_least f g = le_unless e f (λ (o : f < e).
        let a : 2 ^ (p - 1) * 2 ^ (p - 1) * 4 ^ e ≤ k * k * 4 ^ e = mul-le-mul_right (4 ^ e) (mul-le-mul (v.full (omega arith)) (v.full (omega arith))) in
        omega (arith, g, lower f o, a, square k e))

    pub length_above : Length p (u * u + r) k e
    length_above =
        kept (record { fits = above_fits; least = above_least })
        (strictly_near (u * u + r) e k (λ g. let a : 4 ^ e ≤ (4 * k - 1) * 4 ^ e = omega (arith, mul-le-mul_right (4 ^ e) (let b : 1 ≤ 4 * k - 1 = omega arith in b)) in omega (arith, square k e, four_pos e, a))
        (omega (arith, square k e, small nonzero)))
        v.short

  -- a little less than the square
  module _ (n r : ℕ) (s : n + r ≡ u * u) (h : r * 2 ^ 54 < u * u) where
    half_small : r * 2 < k * 4 ^ e
    half_small = below_units k e (r * 2) short (omega (arith, h, square k e))

    some : 0 < k
    some = positive (r * 2 ^ 54) h

    below_fits : n < 4 ^ (p + e)
    below_fits =
        let a : k * k < 2 ^ p * 2 ^ p = lt_of_le_of_lt (mul-le-mul_left k (let o : k ≤ 2 ^ p = omega (arith, v.short) in o)) (mul-lt-mul_of_pos_right v.short (pow_pos p)) in
        let d : k * k * 4 ^ e < 2 ^ p * 2 ^ p * 4 ^ e = mul-lt-mul_of_pos_right a (four_pos e) in
        omega (arith, d, square k e, s, top)

    below_near : NearestWhole n e k
    below_near =
        strictly_near n e k
        (λ g. let a : 2 * k * 4 ^ e ≤ (4 * k - 1) * 4 ^ e = mul-le-mul_right (4 ^ e) (omega arith) in omega (arith, s, square k e, half_small, a))
        (omega (arith, s, square k e, four_pos e))

    -- above a power of two, or at the least exponent, the last place stays
    kept_below : (0 < e → 2 ^ (p - 1) < k) → Length p n k e
    kept_below above = kept (record { fits = below_fits; least = least }) below_near v.short
      where
        least : (f : ℕ) → n < 4 ^ (p + f) → e ≤ f
        least f g = le_unless e f (λ (o : f < e).
            let q = above (omega arith) in
            let a : 2 ^ (p - 1) * (2 ^ (p - 1) + 1) ≤ (k - 1) * k = mul-le-mul (omega (arith, q)) (omega (arith, q)) in
            let j = k - 1 in
            let b : j + 1 ≡ k = omega (arith, some) in
            let c : j * k * 4 ^ e + k * 4 ^ e ≡ k * k * 4 ^ e = omega (arith, ap (λ (x : ℕ). x * k * 4 ^ e) b) in
            omega (arith, g, lower f o, mul-le-mul_right (4 ^ e) a, c, square k e, s, half_small))

    -- below a power of two the last place is half as large, and the root rounds up to the power, by a carry
    module _ (pos : 0 < r) (up : 0 < e) (q : k ≡ 2 ^ (p - 1)) where
      abbrev E : ℕ
      E = e - 1

      -- the square as that of 2 ^ p one exponent down
      square_down : u * u ≡ 2 ^ p * 2 ^ p * 4 ^ E
      square_down =
          let a : 4 ^ e ≡ 4 * 4 ^ E = ap (λ (x : ℕ). 4 ^ x) {x = e} {y = 1 + E} (omega arith) ∙ pow-add 4 1 E in
          let b : 2 ^ p ≡ 2 * k = two_half p some_bits ∙ ap (λ (x : ℕ). 2 * x) (sym q) in
          square k e ∙ omega (arith, ap (λ (x : ℕ). k * k * x) a, ap (λ (x : ℕ). x * x * 4 ^ E) b)

      quarter_small : r * 2 < 2 ^ p * 4 ^ E
      quarter_small = below_units (2 ^ p) E (r * 2) (two_le p 53 ok.precision_most) (omega (arith, h, square_down))

      down : 4 ^ (p + E) ≡ 2 ^ p * 2 ^ p * 4 ^ E
      down = omega (arith, square_at p E, ap (λ (x : ℕ). 2 ^ p * 2 ^ p * x) (four_two E))

      least_down : (f : ℕ) → n < 4 ^ (p + f) → E ≤ f
      least_down f g = le_unless E f (λ (o : f < E).
          let a : 4 * 4 ^ (p + f) ≤ 4 ^ (p + E) = four_more (p + f) (p + E) (omega arith) in
          let b : 2 ^ 2 ≤ 2 ^ p = two_le 2 p ok.precision_least in
          omega (arith, a, g, down, square_down, s, quarter_small, mul-le-mul_right (2 ^ p * 4 ^ E) b))

      pub carried_below : Length p n k e
      carried_below =
          subst (λ (x : ℕ). Length p n x e) (sym q)
          (subst (Length p n (2 ^ (p - 1))) {x = E + 1} {y = e} (omega arith)
          (carried some_bits (record { fits = omega (arith, square_down, s, down, pos); least = least_down })
          (strictly_near n E (2 ^ p)
          (λ g. let a : 2 * 2 ^ p * 4 ^ E ≤ (4 * 2 ^ p - 1) * 4 ^ E = mul-le-mul_right (4 ^ E) (omega (arith, g)) in omega (arith, s, square_down, quarter_small, a))
          (omega (arith, s, square_down, four_pos E)))))

    pub length_below : Length p n k e
    length_below = by_rest (eq-zero-or-pos r)
      where
        by_place : 0 < r → (0 < e → (2 ^ (p - 1) ≡ k) ⊎ (2 ^ (p - 1) < k)) → (e ≡ 0) ⊎ (0 < e) → Length p n k e
        by_place pos full (inl z) = kept_below (λ g. absurd (omega arith))
        by_place pos full (inr g) = elim (full g) [
          | inl q ↦ carried_below pos g (sym q)
          | inr o ↦ kept_below (λ _. o)
        ]

        by_rest : (r ≡ 0) ⊎ (0 < r) → Length p n k e
        by_rest (inl z) = subst (λ (x : ℕ). Length p x k e) (let o : u * u ≡ n = omega (arith, s) in o) (value_is_length form ok k e v)
        by_rest (inr pos) = by_place pos (λ g. eq-or-lt_of_le (v.full g)) (eq-zero-or-pos e)
