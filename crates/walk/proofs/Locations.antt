-- Dropping the last bits of a floor root t: with u half of the new unit, t = k * 2 u + tail, and comparing the tail
-- with 0 and u compares the root itself with k and k + 1/2, since what t leaves out is less than one of its units.
use Rattle.std.proofs.Common.{◌≡◌, ℕ, ◌+◌, ◌-◌, ◌*◌, ◌/◌, ◌%◌, ◌^◌, ◌<◌, ◌≤◌, min, Bool, true, false, cond, ◌&&◌, eqb, ltb, sym, refl, ap, ◌∙◌, subst, inl, inr, true≢false, lt_of_lt_of_le, mul-le-mul_right, mod-eq_of_lt, lt_of_mul-lt-mul_right, mul-pos, div-add-mod', le_of_mul-le-mul_right, arith, pow_pos, ltb-false, ltb-true, lt-ltb, eqb-true}
use native.Mathlib.Nat.{eq_of_mul-eq-mul_right, div-eq_of_lt}
use borrow.Author.Tests.{eqb-false}
use Rattle.std.proofs.lemmas.Nat.{one_shl, mod_below}
use Rattle.exact.proofs.Squares.{squares_le, le_unless, lt_or_le, four_pos, four_two, two_half, two_le}
use Rattle.walk.specs.declared.location.Half.TheVariants.{Below, At, Above}
use Rattle.walk.specs.declared.location.Location.{Location}
use Rattle.walk.specs.Location.{FloorToPlaces, Side, Located, located_at}

-- t * t * x ≤ n * (4 * u * u) < (t + 1) * (t + 1) * x: the multiples a * u of u against t, and their squares against 4 n
module _ (n x u t : ℕ) (u_pos : 0 < u) (x_pos : 0 < x) (low : t * t * x ≤ n * (4 * (u * u))) (high : n * (4 * (u * u)) < (t + 1) * (t + 1) * x) where
  under : (a : ℕ) → a * u ≤ t → a * a * x ≤ 4 * n
  under a h =
      let p : a * u * (a * u) * x ≤ t * t * x = mul-le-mul_right x (squares_le _ _ h) in
      let q : a * a * x * (u * u) ≤ 4 * n * (u * u) = omega (arith, p, low) in
      le_of_mul-le-mul_right q (mul-pos u_pos u_pos)

  over : (b : ℕ) → t < b * u → 4 * n < b * b * x
  over b h =
      let p : (t + 1) * (t + 1) * x ≤ b * u * (b * u) * x = mul-le-mul_right x (squares_le (t + 1) (b * u) (omega arith)) in
      let q : 4 * n * (u * u) < b * b * x * (u * u) = omega (arith, p, high) in
      lt_of_mul-lt-mul_right (u * u) q

  -- where t is exact, a multiple at t is the root
  exact_at : (a : ℕ) → a * u ≡ t → t * t * x ≡ n * (4 * (u * u)) → a * a * x ≡ 4 * n
  exact_at a e h =
      let s : a * u * (a * u) * x ≡ t * t * x = ap (λ (z : ℕ). z * z * x) e in
      eq_of_mul-eq-mul_right (u * u) (mul-pos u_pos u_pos) (a * a * x) (4 * n) (omega (arith, s, h))

  -- a multiple that is the root stands at t
  meets : (a : ℕ) → a * a * x ≡ 4 * n → a * u ≡ t
  meets a h =
      let scaled : a * u * (a * u) * x ≡ n * (4 * (u * u)) = omega (arith, ap (λ (z : ℕ). z * (u * u)) h) in
      let m : t ≤ a * u = le_unless t (a * u) (λ (g : a * u < t).
      omega (arith, mul-le-mul_right x (squares_le (a * u + 1) t (omega arith)), low, scaled, x_pos)) in
      let l : a * u ≤ t = le_unless (a * u) t (λ (g : t < a * u).
      omega (arith, mul-le-mul_right x (squares_le (t + 1) (a * u) (omega arith)), high, scaled)) in
      omega arith

  -- and then t is exact
  meets_exact : (a : ℕ) → a * a * x ≡ 4 * n → t * t * x ≡ n * (4 * (u * u))
  meets_exact a h =
      let s : a * u * (a * u) * x ≡ t * t * x = ap (λ (z : ℕ). z * z * x) (meets a h) in
      omega (arith, s, ap (λ (z : ℕ). z * (u * u)) h)

  abbrev k : ℕ
  k = t / (2 * u)

  abbrev tail : ℕ
  tail = t % (2 * u)

  parts : k * (2 * u) + tail ≡ t
  parts = div-add-mod' t (2 * u)

  tail_small : tail < 2 * u
  tail_small = mod_below t (2 * u) (omega (arith, u_pos))

  floor_low : k * k * x ≤ n
  floor_low = omega (arith, under (2 * k) (omega (arith, parts)))

  floor_high : n < (k + 1) * (k + 1) * x
  floor_high = omega (arith, over (2 * (k + 1)) (omega (arith, parts, tail_small)))

  module _ (exact : Bool) (is_exact : exact ≡ true → t * t * x ≡ n * (4 * (u * u))) (not_exact : exact ≡ false → t * t * x ≡ n * (4 * (u * u)) → ⊥) where
    above : ((2 * k + 1) * (2 * k + 1) * x ≡ 4 * n → ⊥) → u ≤ tail → (2 * k + 1) * (2 * k + 1) * x < 4 * n
    above other h = omega (arith, under (2 * k + 1) (omega (arith, parts, h)), other)

    side_by : (a b c : Bool) → ltb tail u ≡ a → eqb tail u ≡ b → exact ≡ c → Side (cond a Below (cond (b && c) At Above)) (4 * n) ((2 * k + 1) * (2 * k + 1) * x)
    side_by true b c p q w = over (2 * k + 1) (omega (arith, parts, ltb-true tail u p))
    side_by false true true p q w = sym (exact_at (2 * k + 1) (omega (arith, parts, eqb-true tail u q)) (is_exact w))
    side_by false true false p q w = above (λ h. not_exact w (meets_exact (2 * k + 1) h)) (ltb-false tail u p)
    side_by false false c p q w = above (λ h. eqb-false tail u q (omega (arith, parts, meets (2 * k + 1) h))) (ltb-false tail u p)

    exact_by : (b c : Bool) → eqb tail 0 ≡ b → exact ≡ c → (b && c) ≡ true → k * k * x ≡ n
    exact_by true true q w h = omega (arith, exact_at (2 * k) (omega (arith, parts, eqb-true tail 0 q)) (is_exact w))
    exact_by true false q w h = absurd (true≢false (sym h))
    exact_by false c q w h = absurd (true≢false (sym h))

    inexact_by : (b c : Bool) → eqb tail 0 ≡ b → exact ≡ c → (b && c) ≡ false → k * k * x ≡ n → ⊥
    inexact_by true true q w h e = true≢false h
    inexact_by true false q w h e = not_exact w (meets_exact (2 * k) (omega (arith, e)))
    inexact_by false c q w h e = eqb-false tail 0 q (omega (arith, parts, meets (2 * k) (omega (arith, e))))

four_power : (d : ℕ) → 1 ≤ d → 4 ^ d ≡ 4 * (2 ^ (d - 1) * 2 ^ (d - 1))
four_power d h = four_two d ∙ ap (λ (y : ℕ). y * y) (two_half d h) ∙ omega arith

located_by : (n e d t : ℕ) (exact : Bool) → 1 ≤ d → FloorToPlaces n e d t exact → Located n e (located_at t exact (2 ^ (d - 1)))
located_by n e d t exact h f = record {
  low = floor_low n (4 ^ e) u t (pow_pos (d - 1)) (four_pos e) low high;
  high = floor_high n (4 ^ e) u t (pow_pos (d - 1)) (four_pos e) low high;
  half = side_by n (4 ^ e) u t (pow_pos (d - 1)) (four_pos e) low high exact is_exact not_exact _ _ _ refl refl refl;
  is_exact = exact_by n (4 ^ e) u t (pow_pos (d - 1)) (four_pos e) low high exact is_exact not_exact _ _ refl refl;
  not_exact = inexact_by n (4 ^ e) u t (pow_pos (d - 1)) (four_pos e) low high exact is_exact not_exact _ _ refl refl;
}
  where
    u : ℕ
    u = 2 ^ (d - 1)

    scale : n * 4 ^ d ≡ n * (4 * (u * u))
    scale = ap (λ (y : ℕ). n * y) (four_power d h)

    low : t * t * 4 ^ e ≤ n * (4 * (u * u))
    low = subst (λ (y : ℕ). t * t * 4 ^ e ≤ y) scale f.low

    high : n * (4 * (u * u)) < (t + 1) * (t + 1) * 4 ^ e
    high = subst (λ (y : ℕ). y < (t + 1) * (t + 1) * 4 ^ e) scale f.high

    is_exact : exact ≡ true → t * t * 4 ^ e ≡ n * (4 * (u * u))
    is_exact w = f.is_exact w ∙ scale

    not_exact : exact ≡ false → t * t * 4 ^ e ≡ n * (4 * (u * u)) → ⊥
    not_exact w e = f.not_exact w (e ∙ sym scale)

-- a root below the half lies alike for every larger half
far : (t u : ℕ) (exact : Bool) → t < u → located_at t exact u ≡ record { floor = 0; half = Below; exact = eqb t 0 && exact }
far t u exact h =
    let q : t / (2 * u) ≡ 0 = div-eq_of_lt (omega arith) in
    let r : t % (2 * u) ≡ t = mod-eq_of_lt (omega arith) in
    let l : ltb t u ≡ true = lt-ltb t u h in
    simp (q, r, l)

capped : (t d : ℕ) (exact : Bool) → t < 2 ^ 62 → located_at t exact (2 ^ min d 62) ≡ located_at t exact (2 ^ d)
capped t d exact h =
    elim (lt_or_le d 62) [
      | inl l ↦ ap (λ (y : ℕ). located_at t exact (2 ^ y)) {x = min d 62} {y = d} (omega arith)
      | inr l ↦
          ap (λ (y : ℕ). located_at t exact (2 ^ y)) {x = min d 62} {y = 62} (omega arith)
          ∙ far t (2 ^ 62) exact h
          ∙ sym (far t (2 ^ d) exact (lt_of_lt_of_le h (two_le 62 d l)))
    ]

-- the half that the code takes
pub half_is : (c d : ℕ) → c ≡ min d 62 → 1 * 2 ^ c % 2 ^ 64 ≡ 2 ^ c
half_is c d h = one_shl c 64 (omega arith)

pub half_most : (c d : ℕ) → c ≡ min d 62 → 2 ^ c ≤ 2 ^ 62
half_most c d h = two_le c 62 (omega arith)

module _ (t d c : ℕ) (exact : Bool) (l : Location) (small : t < 2 ^ 62) (one : 1 ≤ d) (cap : c ≡ min (d - 1) 62) (is : l ≡ located_at t exact (1 * 2 ^ c % 2 ^ 64)) where
  same : l ≡ located_at t exact (2 ^ (d - 1))
  same = is ∙ ap (located_at t exact) (half_is c (d - 1) cap ∙ ap (λ (y : ℕ). 2 ^ y) cap) ∙ capped t (d - 1) exact small

  pub floor_is : l.floor ≡ t / 2 ^ d
  floor_is = ap (λ (y : Location). y.floor) same ∙ ap (λ (y : ℕ). t / y) (sym (two_half d one))

  pub location_is : (n e : ℕ) → FloorToPlaces n e d t exact → Located n e l
  location_is n e f = subst (Located n e) (sym same) (located_by n e d t exact one f)
