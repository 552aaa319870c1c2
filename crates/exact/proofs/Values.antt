-- The length among the values of a form: where it is a value, that it is nearest, and that nothing else is.
use Rattle.std.proofs.Common.{◌≡◌, ℕ, ◌+◌, ◌-◌, ◌*◌, ◌%◌, ◌^◌, ◌<◌, ◌≤◌, sym, ap, subst, inl, inr, le_trans, le_refl, lt_of_le_of_lt, mul-le-mul_right, le_antisymm, lt_of_mul-lt-mul_right, eq-or-lt_of_le, mul-lt-mul_of_pos_right, le_of_mul-le-mul_right, arith, pow_pos, pow-add}
use native.Mathlib.Nat.{eq_of_mul-eq-mul_right}
use Rattle.std.proofs.lemmas.Nat.{mul-lt}
use Rattle.exact.specs.declared.form.Form.{Form}
use Rattle.exact.specs.Value.{Value, InRange, units, largest_value}
use Rattle.exact.specs.Length.{Ulp, NearestWhole, Length, kept, carried}
use Rattle.exact.specs.Nearest.{AtLeastAsFar, Nearest, LengthIsNearest, NearestIsUnique, LengthIsValue, ValueIsLength}
use Rattle.exact.proofs.Squares.{squares_le, le_unless, lt_or_le, four_two, four_pos, two_le, two_half, square_at, multiple}
use Rattle.exact.proofs.Ulps.{rounded_most, significand_full}
use Rattle.exact.proofs.Nearness.{smaller, as_far, tie_even}

-- 2 ^ p at an exponent is 2 ^ (p - 1) at the next
pub carry_units : (p e : ℕ) → 1 ≤ p → units (2 ^ (p - 1)) (e + 1) ≡ 2 ^ p * 2 ^ e
carry_units p e P = omega (arith, ap (λ (x : ℕ). 2 ^ (p - 1) * x) (pow-add 2 e 1), ap (λ (x : ℕ). x * 2 ^ e) (two_half p P))

-- a length has at most p bits, and all of them above the least exponent
pub record Normal (p k e : ℕ) : Type 0 where
  pub short : k < 2 ^ p
  pub full : 0 < e → 2 ^ (p - 1) ≤ k

pub length_normal : (p n k e : ℕ) → 1 ≤ p → Length p n k e → Normal p k e
length_normal p n k e P (kept u h s) = record { short = s; full = significand_full p n e u k P h }
length_normal p n k f P (carried _ u h) = record { short = omega (arith, two_half p P, pow_pos (p - 1)); full = λ _. le_refl _ }

-- of two such numbers, one with a larger exponent is larger
pub larger : (p k e j f : ℕ) → 1 ≤ p → Normal p k e → Normal p j f → e < f → units k e < units j f
larger p k e j f P a b h = omega (arith, smaller p k e f P h a.short, mul-le-mul_right (2 ^ f) (b.full (omega arith)))

-- so their exponents and significands are determined
pub same_parts : (p k e j f : ℕ) → 1 ≤ p → Normal p k e → Normal p j f → units k e ≡ units j f → (k ≡ j) × (e ≡ f)
same_parts p k e j f P a b q =
    let E : e ≡ f = le_antisymm (le_unless e f (λ h. omega (arith, larger p j f k e P b a h, q))) (le_unless f e (λ h. omega (arith, larger p k e j f P a b h, q))) in
    (eq_of_mul-eq-mul_right (2 ^ f) (pow_pos f) k j (subst (λ (x : ℕ). k * 2 ^ x ≡ j * 2 ^ f) E q), E)

module _ (form : Form) (ok : InRange form) where
  pub some_bits : 1 ≤ form.precision
  some_bits = omega (arith, ok.precision_least)

  pub largest_normal : Normal form.precision form.largest form.span
  largest_normal = record { short = ok.largest_most; full = λ _. ok.largest_least }

  pub value_normal : (k e : ℕ) → Value form k e → Normal form.precision k e
  value_normal k e v = record { short = v.short; full = v.full }

  -- what has the bits of a value and is at most the largest one is a value
  pub normal_value : (k e : ℕ) → Normal form.precision k e → units k e ≤ largest_value form → Value form k e
  normal_value k e a h = record {
    within = le_unless e form.span (λ g. omega (arith, larger form.precision form.largest form.span k e some_bits largest_normal a g, h));
    short = a.short;
    capped = λ q. le_of_mul-le-mul_right {k = 2 ^ form.span} (subst (λ (x : ℕ). k * 2 ^ x ≤ largest_value form) q h) (pow_pos form.span);
    full = a.full;
  }

  -- a value is at most the largest one
  pub value_most : (k e : ℕ) → Value form k e → units k e ≤ largest_value form
  value_most k e v =
      elim (eq-or-lt_of_le v.within) [
        | inl q ↦ subst (λ (x : ℕ). k * 2 ^ x ≤ largest_value form) (sym q) (mul-le-mul_right (2 ^ form.span) (v.capped q))
        | inr g ↦ let h = larger form.precision k e form.largest form.span some_bits (value_normal k e v) largest_normal g in omega (arith, h)
      ]

  -- the largest value is a multiple of 2 ^ e where the root of n, at most the largest value, has its last place there
  pub span_most : (n e : ℕ) → Ulp form.precision n e → n ≤ largest_value form * largest_value form → e ≤ form.span
  span_most n e u h =
      let a : largest_value form < 2 ^ form.precision * 2 ^ form.span = mul-lt-mul_of_pos_right ok.largest_most (pow_pos form.span) in
      u.least form.span (subst (λ (x : ℕ). n < x) (sym (square_at form.precision form.span)) (lt_of_le_of_lt h (mul-lt _ _ _ _ a a)))

  -- a root that is at most the largest value rounds to at most the largest value
  rounds_within : (n k e : ℕ) → Ulp form.precision n e → NearestWhole n e k → n ≤ largest_value form * largest_value form → k * 2 ^ e ≤ largest_value form
  rounds_within n k e u h b =
      let m = multiple form.largest e form.span (span_most n e u b) in
      let c : k ≤ m.0 = rounded_most n e k m.0 h (subst (λ (x : ℕ). n ≤ x * x) m.1 b) in
      subst (λ (x : ℕ). k * 2 ^ e ≤ x) (sym m.1) (mul-le-mul_right (2 ^ e) c)

pub length_is_value : LengthIsValue
length_is_value form ok n k e l h = normal_value form ok k e (length_normal form.precision n k e (some_bits form ok) l) h

pub length_within : (form : Form) → InRange form → (n k e : ℕ) → Length form.precision n k e → n ≤ largest_value form * largest_value form → units k e ≤ largest_value form
length_within form ok n k e (kept u h s) b = rounds_within form ok n k e u h b
length_within form ok n k f (carried {e} P u h) b =
    subst (λ (x : ℕ). x ≤ largest_value form) (sym (carry_units form.precision e (some_bits form ok))) (rounds_within form ok n (2 ^ form.precision) e u h b)

pub length_is_nearest : LengthIsNearest
length_is_nearest form ok n k e (kept u h s) b = record {
  value = length_is_value form ok n k e (kept u h s) (length_within form ok n k e (kept u h s) b);
  nearest = λ j f v. as_far form.precision n k e (some_bits form ok) u h j f v.short;
  even = λ j f v. tie_even form.precision n k e (some_bits form ok) u h j f v.short;
}
length_is_nearest form ok n k f (carried {e} P u h) b = record {
  value = length_is_value form ok n k f (carried P u h) (length_within form ok n k f (carried P u h) b);
  nearest = λ j g v. subst (λ (x : ℕ). AtLeastAsFar n x (units j g)) (sym same) (as_far form.precision n (2 ^ form.precision) e (some_bits form ok) u h j g v.short);
  even = λ _ _ _ _ _. half_even;
}
  where
    same : units (2 ^ (form.precision - 1)) (e + 1) ≡ 2 ^ form.precision * 2 ^ e
    same = carry_units form.precision e (some_bits form ok)

    half_even : 2 ^ (form.precision - 1) % 2 ≡ 0
    half_even = omega (arith, two_half (form.precision - 1) (omega (arith, ok.precision_least)))

-- a value's root is the value itself, and lies on no half
pub value_is_length : ValueIsLength
value_is_length form ok k e v = kept (record { fits = fits; least = least }) whole v.short
  where
    p : ℕ
    p = form.precision

    fits : units k e * units k e < 4 ^ (p + e)
    fits =
        let a : units k e < 2 ^ p * 2 ^ e = mul-lt-mul_of_pos_right v.short (pow_pos e) in
        subst (λ (x : ℕ). units k e * units k e < x) (sym (square_at p e)) (mul-lt _ _ _ _ a a)

    least : (f : ℕ) → units k e * units k e < 4 ^ (p + f) → e ≤ f
    least f h = le_unless e f (λ (g : f < e).
        let a : 2 ^ p * 2 ^ f ≤ units k e = full_reaches g in
        omega (arith, squares_le _ _ a, h, square_at p f))
      where
        full_reaches : f < e → 2 ^ p * 2 ^ f ≤ units k e
        full_reaches g =
            let a : 2 ^ (p + f) ≤ 2 ^ (p - 1 + e) = two_le (p + f) (p - 1 + e) (omega (arith, g, some_bits form ok)) in
            omega (arith, a, pow-add 2 p f, pow-add 2 (p - 1) e, mul-le-mul_right (2 ^ e) (v.full (omega arith)))

    square : 4 * (units k e * units k e) ≡ 2 * k * (2 * k) * 4 ^ e
    square = omega (arith, ap (λ (x : ℕ). k * k * x) (four_two e))

    strictly : (a b : ℕ) → a < b → a * a * 4 ^ e < b * b * 4 ^ e
    strictly a b h = mul-lt-mul_of_pos_right (mul-lt a a b b h h) (four_pos e)

    whole : NearestWhole (units k e * units k e) e k
    whole = record {
      low = λ pos. let h = strictly (2 * k - 1) (2 * k) (omega arith) in omega (arith, h, square);
      high = let h = strictly (2 * k) (2 * k + 1) (omega arith) in omega (arith, h, square);
      even_low = λ pos q. let h = strictly (2 * k - 1) (2 * k) (omega arith) in absurd (omega (arith, h, square, q));
      even_high = λ q. let h = strictly (2 * k) (2 * k + 1) (omega arith) in absurd (omega (arith, h, square, q));
    }

-- Two nearest values would be equally far, with both significands even; but after an even k comes the value k + 1, which is odd.
module _ (form : Form) (ok : InRange form) (n k e j f : ℕ) (a : Nearest form n k e) (b : Nearest form n j f) (h : units k e < units j f) where
  abbrev l : ℕ
  l = units k e

  abbrev v : ℕ
  v = units j f

  in_the_middle : (l + v) * (l + v) ≡ 4 * n
  in_the_middle = le_antisymm
      (subst (λ (x : ℕ). x * x ≤ 4 * n) (omega arith) ((b.nearest k e a.value).below h))
      ((a.nearest j f b.value).above h)

  k_even : k % 2 ≡ 0
  k_even = a.even j f b.value (λ q. omega arith) in_the_middle

  j_even : j % 2 ≡ 0
  j_even = b.even k e a.value (λ q. omega arith) (subst (λ (x : ℕ). x * x ≡ 4 * n) (omega arith) in_the_middle)

  after : units (k + 1) e ≡ l + 2 ^ e
  after = omega arith

  -- a larger value is at least k + 1: one with a smaller exponent would lie below k
  reaches : units (k + 1) e ≤ v
  reaches =
      elim (lt_or_le f e) [
        | inl g ↦ absurd (omega (arith, h, larger form.precision j f k e (some_bits form ok) (value_normal form ok j f b.value) (value_normal form ok k e a.value) g))
        | inr g ↦
            let m = multiple j e f g in
            let c : k < m.0 = lt_of_mul-lt-mul_right (2 ^ e) (subst (λ (x : ℕ). l < x) m.1 h) in
            subst (λ (x : ℕ). units (k + 1) e ≤ x) (sym m.1) (mul-le-mul_right (2 ^ e) (omega arith))
      ]

  next_normal : Normal form.precision (k + 1) e
  next_normal = record {
    short = omega (arith, k_even, a.value.short, two_half form.precision (some_bits form ok));
    full = λ g. let i = a.value.full g in omega arith;
  }

  next_value : Value form (k + 1) e
  next_value = normal_value form ok (k + 1) e next_normal (le_trans reaches (value_most form ok j f b.value))

  -- k + 1 is no nearer than k, so it is not below j
  not_between : units (k + 1) e < v → ⊥
  not_between g =
      let up : l < units (k + 1) e = omega (arith, after, pow_pos e) in
      let c = (a.nearest (k + 1) e next_value).above up in
      let s : l + units (k + 1) e < l + v = omega arith in
      omega (arith, mul-lt _ _ _ _ s s, in_the_middle, c)

  pub not_two : ⊥
  not_two =
      elim (eq-or-lt_of_le reaches) [
        | inl q ↦
            let s = same_parts form.precision (k + 1) e j f (some_bits form ok) next_normal (value_normal form ok j f b.value) q in
            omega (arith, s.0, k_even, j_even)
        | inr g ↦ not_between g
      ]

pub nearest_unique : NearestIsUnique
nearest_unique form ok n k e j f a b =
    same_parts form.precision k e j f (some_bits form ok) (value_normal form ok k e a.value) (value_normal form ok j f b.value)
    (le_antisymm (le_unless (units k e) (units j f) (not_two form ok n j f k e b a)) (le_unless (units j f) (units k e) (not_two form ok n k e j f a b)))
