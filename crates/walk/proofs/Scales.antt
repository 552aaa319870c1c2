-- The floor root of the words in the scale of n: what was cut off does not move it, and its own bits tell the
-- last place of the root of n.
use Rattle.std.proofs.Common.{◌≡◌, ℕ, ◌+◌, ◌*◌, ◌/◌, ◌%◌, ◌^◌, ◌<◌, ◌≤◌, Bool, true, false, not, ◌&&◌, eqb, ◌⊎◌, sym, refl, ap, ◌∙◌, subst, inl, inr, true≢false, le_trans, lt_of_lt_of_le, mul-le-mul_right, lt_of_mul-lt-mul_right, mul-lt-mul_of_pos_right, div-add-mod', mul_right_comm, le_of_mul-le-mul_right, mul-div_cancel, arith, pow-add, eqb-true}
use native.Mathlib.Nat.{eq_of_mul-eq-mul_right, mul-mod_left, pow-le-pow_right}
use borrow.Author.Tests.{eqb-false}
use Rattle.exact.specs.Root.{FloorRoot}
use Rattle.exact.specs.Length.{Ulp}
use Rattle.exact.proofs.Squares.{squares_le, le_unless, four_pos, four_two}
use Rattle.exact.proofs.Roots.{root_of_quotient}
use Rattle.radicand.specs.declared.words.Radicand.{Radicand}
use Rattle.radicand.specs.Stands.{radicand_floor, Stands}
use Rattle.walk.specs.Location.{FloorToPlaces}

-- t is the floor root of v / m, in units in which the root of n is that of v / m
module _ (n e d v m t : ℕ) (m_pos : 0 < m) (scale : n * 4 ^ d * m ≡ v * 4 ^ e) (root : FloorRoot (v / m) t) where
  bounds : (t * t * m ≤ v) × (v < (t + 1) * (t + 1) * m)
  bounds = root_of_quotient v m t m_pos root

  low : t * t * 4 ^ e ≤ n * 4 ^ d
  low = let h : t * t * 4 ^ e * m ≤ n * 4 ^ d * m = omega (arith, mul-le-mul_right (4 ^ e) bounds.0, scale) in le_of_mul-le-mul_right h m_pos

  high : n * 4 ^ d < (t + 1) * (t + 1) * 4 ^ e
  high = let h : n * 4 ^ d * m < (t + 1) * (t + 1) * 4 ^ e * m = omega (arith, mul-lt-mul_of_pos_right bounds.1 (four_pos e), scale) in lt_of_mul-lt-mul_right m h

  exact_up : t * t * m ≡ v → t * t * 4 ^ e ≡ n * 4 ^ d
  exact_up h = eq_of_mul-eq-mul_right m m_pos _ _ (mul_right_comm (t * t) (4 ^ e) m ∙ ap (λ (y : ℕ). y * 4 ^ e) h ∙ sym scale)

  exact_down : t * t * 4 ^ e ≡ n * 4 ^ d → t * t * m ≡ v
  exact_down h = eq_of_mul-eq-mul_right (4 ^ e) (four_pos e) _ _ (mul_right_comm (t * t) m (4 ^ e) ∙ ap (λ (y : ℕ). y * m) h ∙ scale)

-- the words leave the residual r beside the square of t, and the fraction is exact where that is 0 and nothing was cut
module _ (radicand : Radicand) (v m t r : ℕ) (stands : Stands radicand v m) (square : t * t + r ≡ 4 * radicand_floor radicand + radicand.bits) where
  whole_is : v / m ≡ t * t + r
  whole_is = stands.floor ∙ sym square

  exact_if : (a b : Bool) → eqb r 0 ≡ a → radicand.cut ≡ b → (a && not b) ≡ true → t * t * m ≡ v
  exact_if true true z c h = absurd (true≢false (sym h))
  exact_if true false z c h =
      let s : v / m ≡ t * t = omega (arith, whole_is, eqb-true r 0 z) in
      omega (arith, div-add-mod' v m, stands.not_cut c, ap (λ (x : ℕ). x * m) s)
  exact_if false b z c h = absurd (true≢false (sym h))

  inexact_if : (a b : Bool) → eqb r 0 ≡ a → radicand.cut ≡ b → (a && not b) ≡ false → t * t * m ≡ v → ⊥
  inexact_if true true z c h e = stands.is_cut c (ap (λ (x : ℕ). x % m) (sym e) ∙ mul-mod_left (t * t) m)
  inexact_if true false z c h e = true≢false h
  inexact_if false b z c h e =
      let s : v / m ≡ t * t = ap (λ (x : ℕ). x / m) (sym e) ∙ mul-div_cancel (t * t) stands.positive in
      eqb-false r 0 z (omega (arith, whole_is, s))

pub floor_to_places : (radicand : Radicand) (n e d v m t r : ℕ) (exact : Bool) → Stands radicand v m → n * 4 ^ d * m ≡ v * 4 ^ e
    → t * t + r ≡ 4 * radicand_floor radicand + radicand.bits → r ≤ 2 * t → exact ≡ (eqb r 0 && not radicand.cut) → FloorToPlaces n e d t exact
floor_to_places radicand n e d v m t r exact stands scale square small test = record {
  low = low n e d v m t stands.positive scale root;
  high = high n e d v m t stands.positive scale root;
  is_exact = λ h. exact_up n e d v m t stands.positive scale root (exact_if radicand v m t r stands square _ _ refl refl (sym test ∙ h));
  not_exact = λ h w. inexact_if radicand v m t r stands square _ _ refl refl (sym test ∙ h) (exact_down n e d v m t stands.positive scale root w);
}
  where
    root : FloorRoot (v / m) t
    root = let w = whole_is radicand v m t r stands square in record { low = omega (arith, w); high = omega (arith, w) }

-- n is at least a quarter of the bound at e, so no smaller exponent will do
least_by : (p n e : ℕ) → 4 ^ (p + e) ≤ 4 * n → (f : ℕ) → n < 4 ^ (p + f) → e ≤ f
least_by p n e h f g =
    le_unless e f (λ (l : f < e).
    let m : p + f + 1 ≤ p + e = omega arith in
    let i : 4 ^ (p + f + 1) ≤ 4 ^ (p + e) = pow-le-pow_right {n = 4} (omega arith) m in
    omega (arith, i, pow-add 4 (p + f) 1))

-- a root with p + d bits has its last place at e, and a shorter one where e is the least exponent
pub ulp_from : (p n e d t : ℕ) (exact : Bool) → FloorToPlaces n e d t exact → t < 2 ^ (p + d) → (e ≡ 0) ⊎ (2 ^ (p + d) ≤ 2 * t) → Ulp p n e
ulp_from p n e d t exact f short full = record { fits = fits; least = least full }
  where
    square : (a : ℕ) → 4 ^ (p + a) * 4 ^ d ≡ 2 ^ (p + d) * 2 ^ (p + d) * 4 ^ a
    square a = ap (λ (x : ℕ). x * 4 ^ d) (pow-add 4 p a) ∙ mul_right_comm (4 ^ p) (4 ^ a) (4 ^ d) ∙ ap (λ (x : ℕ). x * 4 ^ a) (sym (pow-add 4 p d) ∙ four_two (p + d))

    fits : n < 4 ^ (p + e)
    fits =
        let a : (t + 1) * (t + 1) ≤ 2 ^ (p + d) * 2 ^ (p + d) = squares_le _ _ (omega arith) in
        let b : n * 4 ^ d < 4 ^ (p + e) * 4 ^ d = lt_of_lt_of_le f.high (subst (λ (x : ℕ). (t + 1) * (t + 1) * 4 ^ e ≤ x) (sym (square e)) (mul-le-mul_right (4 ^ e) a)) in
        lt_of_mul-lt-mul_right (4 ^ d) b

    least : (e ≡ 0) ⊎ (2 ^ (p + d) ≤ 2 * t) → (g : ℕ) → n < 4 ^ (p + g) → e ≤ g
    least (inl z) g h = omega arith
    least (inr o) g h =
        least_by p n e (le_of_mul-le-mul_right {k = 4 ^ d} (
        let a : 2 ^ (p + d) * 2 ^ (p + d) * 4 ^ e ≤ 2 * t * (2 * t) * 4 ^ e = mul-le-mul_right (4 ^ e) (squares_le _ _ o) in
        let b : 2 * t * (2 * t) * 4 ^ e ≤ 4 * n * 4 ^ d = omega (arith, f.low) in
        subst (λ (x : ℕ). x ≤ 4 * n * 4 ^ d) (sym (square e)) (le_trans a b)) (four_pos d)) g h
