-- The tests of the code on bits and significands are those on magnitudes.
use mathlib.Core.Path.{◌≡◌, refl, sym, ◌∙◌}
use mathlib.Core.Bool.{Bool, true, false, cond}
use Prim.Native.Nat.{◌+◌, ◌*◌, ◌^◌, ◌≤◌, ◌<◌}
use native.Mathlib.Omega.{arith}
use lib.Dec.{ltb, eqb}
use borrow.Author.Tests.{eq-eqb, ne_eqb, eqb-true, eqb-false}
use Rattle.exact.proofs.Squares.{lt_unless}
use Rattle.sides.specs.declared.side.Side.{Side}
use Rattle.sides.specs.Order.{side_units, is_far}
use Rattle.sides.proofs.Sizes.{AtBits, at_bits, at_bits_more, pair_lt, by_parts, in_order, zero_significand, zero_magnitude}

pub side_at : (s : Side) → AtBits (side_units s) s.significand s.bits
side_at s = at_bits (side_units s) s.significand s.bits s.sized

pub shorter : (s t : Side) → pair_lt s.bits s.significand t.bits t.significand ≡ ltb (side_units s) (side_units t)
shorter s t = in_order (side_units s) s.significand s.bits (side_units t) t.significand t.bits (side_at s) (side_at t)

-- the same by their parts, as the code compares them
pub shorter_by_parts : (s t : Side) → cond (eqb s.bits t.bits) (ltb s.significand t.significand) (ltb s.bits t.bits) ≡ ltb (side_units s) (side_units t)
shorter_by_parts s t = by_parts s.bits s.significand t.bits t.significand ∙ shorter s t

-- a side has no length exactly where it has no significand
pub zero_test : (s : Side) → eqb s.significand 0 ≡ eqb (side_units s) 0
zero_test s = go (eqb s.significand 0) refl
  where
    go : (b : Bool) → eqb s.significand 0 ≡ b → b ≡ eqb (side_units s) 0
    go true e = sym (eq-eqb (side_units s) 0 (zero_significand (side_units s) s.significand s.bits (side_at s) (eqb-true s.significand 0 e)))
    go false e = sym (ne_eqb (side_units s) 0 (λ z. eqb-false s.significand 0 e (zero_magnitude (side_units s) s.significand s.bits (side_at s) z)))

pub far_by_parts : (s t : Side) → eqb (side_units s) 0 ≡ false
    → cond (eqb (s.bits + 27) t.bits) (ltb s.significand t.significand) (ltb (s.bits + 27) t.bits) ≡ is_far (side_units t) (side_units s)
far_by_parts s t e =
    let some : 0 < side_units s = let d : side_units s ≡ 0 → ⊥ = eqb-false (side_units s) 0 e in lt_unless 0 (side_units s) (λ (h : side_units s ≤ 0). d (omega arith)) in
    by_parts (s.bits + 27) s.significand t.bits t.significand
    ∙ in_order (side_units s * 2 ^ 27) s.significand (s.bits + 27) (side_units t) t.significand t.bits
    (at_bits_more (side_units s) s.significand s.bits (side_at s) some) (side_at t)
