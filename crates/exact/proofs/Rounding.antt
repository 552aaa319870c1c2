-- From the floor d of twice the root, in units of 2 ^ e, to the nearest whole number: d tells on which side of
-- k - 1/2 and k + 1/2 the root lies, and whether d is exact tells whether it lies on one of them.
use Rattle.std.proofs.Common.{◌≡◌, ℕ, ◌+◌, ◌-◌, ◌*◌, ◌/◌, ◌%◌, ◌^◌, ◌<◌, ◌≤◌, Bool, true, false, cond, ◌&&◌, eqb, ltb, sym, refl, ◌∙◌, subst, inl, inr, le_trans, le_of_eq, lt_of_lt_of_le, mul-le-mul_right, le_antisymm, eq-or-lt_of_le, le_of_mul-le-mul_right, arith, ltb-false, ltb-true, eqb-true}
use native.Mathlib.Nat.{eq_of_mul-eq-mul_right}
use borrow.Author.Tests.{eqb-false}
use Rattle.exact.specs.Root.{isqrt}
use Rattle.exact.specs.Length.{NearestWhole, half_to_even, nearer_root, rounded_root}
use Rattle.exact.proofs.Squares.{le_of_squares, squares_le, le_unless, four_pos}
use Rattle.exact.proofs.Roots.{isqrt_is, root_of_quotient}

-- d rounds to k
record Rounds (d k : ℕ) (exact : Type 0) : Type 0 where
  low : 2 * k - 1 ≤ d
  high : d ≤ 2 * k + 1
  even_low : 2 * k - 1 ≡ d → exact → (0 < k) → k % 2 ≡ 0
  even_high : d ≡ 2 * k + 1 → exact × (k % 2 ≡ 0)

module _ (n x d : ℕ) (x_pos : 0 < x) (floor : d * d * x ≤ 4 * n) (next : 4 * n < (d + 1) * (d + 1) * x) where
  under : (a : ℕ) → a ≤ d → a * a * x ≤ 4 * n
  under a h = le_trans (mul-le-mul_right x (squares_le a d h)) floor

  over : (b : ℕ) → d < b → 4 * n < b * b * x
  over b h = lt_of_lt_of_le next (mul-le-mul_right x (squares_le (d + 1) b (omega arith)))

  -- a square that meets 4 n is that of d
  meets : (a : ℕ) → a * a * x ≡ 4 * n → a ≡ d
  meets a h = le_antisymm
      (le_unless a d (λ (g : d < a). omega (arith, over a g, h)))
      (le_of_squares d a (le_of_mul-le-mul_right (le_trans floor (le_of_eq (sym h))) x_pos))

rounds_nearest : (n e d k : ℕ) → d * d * 4 ^ e ≤ 4 * n → 4 * n < (d + 1) * (d + 1) * 4 ^ e → Rounds d k (d * d * 4 ^ e ≡ 4 * n) → NearestWhole n e k
rounds_nearest n e d k floor next r = record {
  low = λ _. under n (4 ^ e) d (four_pos e) floor next (2 * k - 1) r.low;
  high = elim (eq-or-lt_of_le r.high) [
    | inl q ↦ le_of_eq (sym (exact_at (2 * k + 1) q (r.even_high q).0))
    | inr q ↦ let h = over n (4 ^ e) d (four_pos e) floor next (2 * k + 1) q in omega (arith, h)
  ];
  even_low = λ pos h. let m = meets n (4 ^ e) d (four_pos e) floor next (2 * k - 1) h in r.even_low m (exact_of (2 * k - 1) m h) pos;
  even_high = λ h. (r.even_high (sym (meets n (4 ^ e) d (four_pos e) floor next (2 * k + 1) (sym h)))).1;
}
  where
    exact_at : (a : ℕ) → d ≡ a → d * d * 4 ^ e ≡ 4 * n → a * a * 4 ^ e ≡ 4 * n
    exact_at a q h = subst (λ (z : ℕ). z * z * 4 ^ e ≡ 4 * n) q h

    exact_of : (a : ℕ) → a ≡ d → a * a * 4 ^ e ≡ 4 * n → d * d * 4 ^ e ≡ 4 * n
    exact_of a q h = subst (λ (z : ℕ). z * z * 4 ^ e ≡ 4 * n) q h

-- halves go to the even neighbour, and all else to the nearest
half_rounds : (d : ℕ) (exact : Type 0) (x : Bool) → (x ≡ true → exact) → (x ≡ false → exact → ⊥) → Rounds d (half_to_even d x) exact
half_rounds d exact x yes_exact not_exact = go x refl (eqb (d % 2) 1) (eqb-true (d % 2) 1) (eqb-false (d % 2) 1)
  where
    go : (y : Bool) → x ≡ y → (o : Bool) → (o ≡ true → d % 2 ≡ 1) → (o ≡ false → d % 2 ≡ 1 → ⊥) → Rounds d (cond (y && o) ((d / 2 + 1) / 2 * 2) ((d + 1) / 2)) exact
    go true q true a b = let z : d % 2 ≡ 1 = a refl in record { low = omega arith; high = omega arith; even_low = λ _ _ _. omega arith; even_high = λ h. (yes_exact q, omega arith) }
    go true q false a b = let z : d % 2 ≡ 1 → ⊥ = b refl in record { low = omega arith; high = omega arith; even_low = λ h _ pos. absurd (omega arith); even_high = λ h. absurd (omega arith) }
    go false q true a b = let z : d % 2 ≡ 1 = a refl in record { low = omega arith; high = omega arith; even_low = λ _ h _. absurd (not_exact q h); even_high = λ h. absurd (omega arith) }
    go false q false a b = let z : d % 2 ≡ 1 → ⊥ = b refl in record { low = omega arith; high = omega arith; even_low = λ h _ pos. absurd (omega arith); even_high = λ h. absurd (omega arith) }

pub rounded_root_is : (n e : ℕ) → NearestWhole n e (rounded_root n e)
unfolding rounded_root
rounded_root_is n e =
    let d = isqrt (4 * n / 4 ^ e) in
    let q = root_of_quotient (4 * n) (4 ^ e) d (four_pos e) (isqrt_is (4 * n / 4 ^ e)) in
    rounds_nearest n e d _ q.0 q.1 (half_rounds d _ (eqb (d * d * 4 ^ e) (4 * n)) (eqb-true _ _) (eqb-false _ _))

not_past : (n e k l : ℕ) → NearestWhole n e k → NearestWhole n e l → k < l → ⊥
not_past n e k l a b h =
    let l_pos : 0 < l = omega arith in
    let o : 2 * k + 1 ≤ 2 * l - 1 = omega arith in
    let m : (2 * k + 1) * (2 * k + 1) * 4 ^ e ≤ (2 * l - 1) * (2 * l - 1) * 4 ^ e = mul-le-mul_right (4 ^ e) (squares_le _ _ o) in
    let x : (2 * l - 1) * (2 * l - 1) * 4 ^ e ≡ (2 * k + 1) * (2 * k + 1) * 4 ^ e = le_antisymm (le_trans (b.low l_pos) a.high) m in
    let y : (2 * l - 1) * (2 * l - 1) ≡ (2 * k + 1) * (2 * k + 1) = eq_of_mul-eq-mul_right (4 ^ e) (four_pos e) _ _ x in
    let z : 2 * l - 1 ≤ 2 * k + 1 = le_of_squares _ _ (le_of_eq y) in
    let s : l ≡ k + 1 = omega arith in
    let p : 4 * n ≡ (2 * k + 1) * (2 * k + 1) * 4 ^ e = le_antisymm a.high (le_trans m (b.low l_pos)) in
    omega (arith, a.even_high p, b.even_low l_pos (x ∙ sym p))

pub nearest_whole_unique : (n e k l : ℕ) → NearestWhole n e k → NearestWhole n e l → k ≡ l
nearest_whole_unique n e k l a b = le_antisymm (le_unless k l (not_past n e l k b a)) (le_unless l k (not_past n e k l a b))

-- any floor of twice the root rounds to the rounded root
pub rounded_by : (n e d : ℕ) (x : Bool) → d * d * 4 ^ e ≤ 4 * n → 4 * n < (d + 1) * (d + 1) * 4 ^ e → (x ≡ true → d * d * 4 ^ e ≡ 4 * n) → (x ≡ false → d * d * 4 ^ e ≡ 4 * n → ⊥)
    → half_to_even d x ≡ rounded_root n e
rounded_by n e d x floor next yes_exact not_exact = nearest_whole_unique n e _ _ (rounds_nearest n e d _ floor next (half_rounds d _ x yes_exact not_exact)) (rounded_root_is n e)

-- At the least exponent no root lies halfway, since 4 n is even and the square of an odd number is not; so the
-- nearest whole number is at most half a unit away: 4 n lies between the squares of 2 k - 1 and 2 k + 1.
nearest_at_least : (n k : ℕ) → (0 < k → (2 * k - 1) * (2 * k - 1) ≤ 4 * n) → 4 * n ≤ (2 * k + 1) * (2 * k + 1) → NearestWhole n 0 k
nearest_at_least n k low high = record {
  low = λ pos. omega (arith, low pos);
  high = omega (arith, high);
  even_low = λ pos h. let o : 2 * k - 1 ≡ 2 * (k - 1) + 1 = omega arith in absurd (odd (k - 1) (subst (λ (z : ℕ). z * z * 4 ^ 0 ≡ 4 * n) o h));
  even_high = λ h. absurd (odd k (sym h));
}
  where
    odd : (a : ℕ) → (2 * a + 1) * (2 * a + 1) * 4 ^ 0 ≡ 4 * n → ⊥
    odd a h = omega arith

-- the floor root r is nearest where the residual n - r * r is at most r, and r + 1 elsewhere
nearest_is_floor : (n r : ℕ) → r * r ≤ n → n - r * r ≤ r → r ≡ rounded_root n 0
nearest_is_floor n r low h = nearest_whole_unique n 0 r _ (nearest_at_least n r under_r (omega arith)) (rounded_root_is n 0)
  where
    under_r : 0 < r → (2 * r - 1) * (2 * r - 1) ≤ 4 * n
    under_r pos = omega (arith, squares_le (2 * r - 1) (2 * r) (omega arith))

nearest_is_next : (n r : ℕ) → n < (r + 1) * (r + 1) → r < n - r * r → r + 1 ≡ rounded_root n 0
nearest_is_next n r high h = nearest_whole_unique n 0 (r + 1) _ (nearest_at_least n (r + 1) under_r (omega arith)) (rounded_root_is n 0)
  where
    under_r : 0 < r + 1 → (2 * (r + 1) - 1) * (2 * (r + 1) - 1) ≤ 4 * n
    under_r pos = let o : 2 * (r + 1) - 1 ≡ 2 * r + 1 = omega arith in subst (λ (z : ℕ). z * z ≤ 4 * n) (sym o) (omega arith)

pub nearer_root_is : (n r : ℕ) → r * r ≤ n → n < (r + 1) * (r + 1) → nearer_root n r ≡ rounded_root n 0
nearer_root_is n r low high = by_test (ltb r (n - r * r)) refl
  where
    by_test : (b : Bool) → ltb r (n - r * r) ≡ b → cond b (r + 1) r ≡ rounded_root n 0
    by_test true t = nearest_is_next n r high (ltb-true _ _ t)
    by_test false t = nearest_is_floor n r low (ltb-false _ _ t)
