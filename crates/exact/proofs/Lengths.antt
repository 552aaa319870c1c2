-- The length: every radicand has one, the computed one, and no other.
use Rattle.std.proofs.Common.{◌≡◌, ℕ, ◌+◌, ◌-◌, ◌^◌, ◌≤◌, Bool, true, false, cond, eqb, sym, refl, ap, ◌∙◌, subst, arith, eq-eqb, ne_eqb, eqb-true}
use borrow.Author.Tests.{eqb-false}
use Rattle.exact.specs.Length.{Ulp, NearestWhole, Length, kept, carried, ulp_exponent, rounded_root, length_significand, length_exponent}
use Rattle.exact.specs.Nearest.{LengthExists, LengthIsUnique}
use Rattle.exact.proofs.Rounding.{rounded_root_is, nearest_whole_unique}
use Rattle.exact.proofs.Ulps.{ulp_exponent_is, ulp_unique, significand_most}

made : (p n e k : ℕ) (b : Bool) → 1 ≤ p → Ulp p n e → NearestWhole n e k → eqb k (2 ^ p) ≡ b → Length p n (cond b (2 ^ (p - 1)) k) (cond b (e + 1) e)
made p n e k true P u h q = carried P u (subst (NearestWhole n e) (eqb-true k (2 ^ p) q) h)
made p n e k false P u h q = let d : k ≡ 2 ^ p → ⊥ = eqb-false k (2 ^ p) q in kept u h (omega (arith, significand_most p n e u k h))

pub length_exists : LengthExists
unfolding length_significand length_exponent
length_exists p n P = made p n (ulp_exponent p n) (rounded_root n (ulp_exponent p n)) _ P (ulp_exponent_is p n) (rounded_root_is n (ulp_exponent p n)) refl

module _ (p n e k : ℕ) (u : Ulp p n e) (h : NearestWhole n e k) where
  same_exponent : e ≡ ulp_exponent p n
  same_exponent = ulp_unique p n e (ulp_exponent p n) u (ulp_exponent_is p n)

  same_root : k ≡ rounded_root n (ulp_exponent p n)
  same_root = nearest_whole_unique n (ulp_exponent p n) k _ (subst (λ (x : ℕ). NearestWhole n x k) same_exponent h) (rounded_root_is n (ulp_exponent p n))

  test : (b : Bool) → eqb k (2 ^ p) ≡ b → eqb (rounded_root n (ulp_exponent p n)) (2 ^ p) ≡ b
  test b q = subst (λ (x : ℕ). eqb x (2 ^ p) ≡ b) same_root q

pub length_unique : LengthIsUnique
unfolding length_significand length_exponent
length_unique p n k e (kept u h s) =
    let t = test p n e k u h false (ne_eqb k (2 ^ p) (omega arith)) in
    let r = rounded_root n (ulp_exponent p n) in
    (same_root p n e k u h ∙ sym (ap (λ b. cond b (2 ^ (p - 1)) r) t), same_exponent p n e k u h ∙ sym (ap (λ b. cond b (ulp_exponent p n + 1) (ulp_exponent p n)) t))
length_unique p n k f (carried {e} P u h) =
    let t = test p n e (2 ^ p) u h true (eq-eqb (2 ^ p) (2 ^ p) refl) in
    let r = rounded_root n (ulp_exponent p n) in
    (sym (ap (λ b. cond b (2 ^ (p - 1)) r) t), ap (λ (x : ℕ). x + 1) (same_exponent p n e (2 ^ p) u h) ∙ sym (ap (λ b. cond b (ulp_exponent p n + 1) (ulp_exponent p n)) t))
