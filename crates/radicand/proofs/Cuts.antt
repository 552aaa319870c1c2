-- Numbers in limbs after several cuts: a far side, and a number in the scale of a head.
use Rattle.std.proofs.Common.{◌≡◌, ℕ, ◌+◌, ◌-◌, ◌*◌, ◌^◌, ◌<◌, ◌≤◌, Bool, ap, subst, inl, inr, mul-le-mul_right, lt_of_not-le, arith, pow-add}
use native.Mathlib.Nat.{pow-le-pow_right}
use Rattle.exact.proofs.Squares.{lt_or_le, four_pos}
use Rattle.radicand.specs.Sides.{head_scaled, denominator}
use Rattle.radicand.specs.Truncation.{Truncates}
use Rattle.radicand.proofs.Scales.{scale, three_cuts}
use Rattle.radicand.proofs.Truncations.{same_fraction, below_one}

-- what times m is below b times m is below b
pub quotient_below : (n b v m : ℕ) → v < b * m → n * m ≤ v → n < b
quotient_below n b v m h t = lt_of_not-le (λ (g : b ≤ n). omega (arith, t, mul-le-mul_right m g))

-- the units of a number, cut once more to what the words count
pub scaled_down : (k x d p : ℕ) (a : Bool) → p ≤ 57 → Truncates k a (x * 2 ^ 56) (4 ^ d * 2 ^ (114 - 2 * p)) → Truncates k a (head_scaled x p) (denominator d)
unfolding head_scaled denominator
scaled_down k x d p a P t =
    same_fraction k a (x * 2 ^ 56) (4 ^ d * 2 ^ (114 - 2 * p)) (x * 4 ^ (23 + p)) (4 ^ (52 + d))
    (four_pos (52 + d))
    (omega (arith, ap (λ (y : ℕ). x * 4 ^ d * y) (scale p P), ap (λ (y : ℕ). x * y) (pow-add 4 52 d)))
    t

-- three cuts, of at most 28 places each, of a number of three limbs
pub far_cut : (w p a b c k : ℕ) (z : Bool) → w < 2 ^ 168 → (p ≤ 84 → a + b + c ≡ p) → (84 ≤ p → a + b + c ≡ 84) → Truncates k z w (2 ^ (2 * a) * 2 ^ (2 * b) * 2 ^ (2 * c)) → Truncates k z w (4 ^ p)
far_cut w p a b c k z W near beyond t =
    elim (lt_or_le 84 p) [
      | inr h ↦ subst (Truncates k z w) (three_cuts a b c p (near h)) t
      | inl h ↦
          let l : 4 ^ 84 ≤ 4 ^ p = let g : 84 ≤ p = omega arith in pow-le-pow_right {n = 4} (omega arith) g in
          below_one k z w (4 ^ 84) (4 ^ p) W l (subst (Truncates k z w) (three_cuts a b c 84 (beyond (omega arith))) t)
    ]
