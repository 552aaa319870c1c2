-- A posed root, from a head and a radicand by significands.
use mathlib.Core.Path.{◌≡◌, ap, subst}
use Prim.Native.Nat.{ℕ, ◌+◌, ◌-◌, ◌*◌, ◌^◌, ◌≤◌, ◌<◌}
use native.Mathlib.Omega.{arith}
use lib.Dec.{T}
use lib.Ieee.{Float, binary64, fits, size}
use Rattle.exact.proofs.Squares.{four_pos}
use Rattle.head.specs.declared.word.Head.{Head}
use Rattle.head.specs.Head.{Heads}
use Rattle.head.specs.Bound.{three_exact, leg_exact, NearRoot}
use Rattle.head.proofs.ComputedHeads.{head_computed}
use Rattle.radicand.specs.declared.words.Radicand.{Radicand}
use Rattle.radicand.specs.Sides.{three_squares, leg_square, head_scaled, denominator}
use Rattle.radicand.specs.Stands.{Stands}
use Rattle.radicand.proofs.Fractions.{stands_for}
use Rattle.sides.specs.declared.side.Side.{Side}
use Rattle.sides.specs.Order.{side_units}
use Rattle.sides.specs.Poses.{posed_with, Poses}
use Rattle.sides.proofs.LowerSides.{side_bits}

module _ (h : Float) (n : ℕ) (s : Side) (head : Head) (r : Radicand) where
  pub poses : 0 < side_units s → T (fits binary64 h) → Heads h head.word head.places → NearRoot n (size (side_units s) - 1) head.word head.places
      → Stands r (n * 4 ^ (23 + head.places)) (4 ^ (size (side_units s) - 1))
      → 30 ≤ head.places → head.places ≤ 57 → Poses h n (side_units s) (posed_with s.bits head r)
  poses some f heads near stands least most =
      let C = head_computed h head.word head.places f heads in
      record {
        heads = heads;
        word_is = C.0;
        places_are = C.1;
        places_least = least;
        places_most = most;
        near = near;
        stands = stands;
        sized = s.sized.1;
        some_bits = side_bits s some;
        few_bits = s.sized.2;
      }

-- The radicand x / 4 ^ c by significands is n over the largest side in units.
module _ (r : Radicand) (s : Side) (n x c places : ℕ) (scale : x * 4 ^ (s.bits - 1) ≡ n * 4 ^ c) where
  stands_in_units : Stands r (x * 4 ^ (23 + places)) (4 ^ c) → Stands r (n * 4 ^ (23 + places)) (4 ^ (size (side_units s) - 1))
  stands_in_units stands =
      let A = 4 ^ (23 + places) in
      subst (λ (z : ℕ). Stands r (n * A) (4 ^ (z - 1))) s.sized.1
      (stands_for r (x * A) (4 ^ c) (n * A) (4 ^ (s.bits - 1)) (four_pos (s.bits - 1)) (omega (arith, ap (λ (z : ℕ). z * A) scale)) stands)

pub sum_stands : (r : Radicand) (s : Side) (x m n d k e places : ℕ) → three_exact m n d k e * 4 ^ (s.bits - 1) ≡ x * 4 ^ (52 + (d + e))
    → Stands r (head_scaled (three_squares m n d k e) places) (denominator (d + e)) → Stands r (x * 4 ^ (23 + places)) (4 ^ (size (side_units s) - 1))
unfolding head_scaled three_squares denominator
sum_stands r s x m n d k e places scale stands = stands_in_units r s x (three_exact m n d k e) (52 + (d + e)) places scale stands

pub leg_stands : (r : Radicand) (s : Side) (x m n d places : ℕ) → leg_exact m n d * 4 ^ (s.bits - 1) ≡ x * 4 ^ (52 + d)
    → Stands r (head_scaled (leg_square m n d) places) (denominator d) → Stands r (x * 4 ^ (23 + places)) (4 ^ (size (side_units s) - 1))
unfolding head_scaled leg_square denominator
leg_stands r s x m n d places scale stands = stands_in_units r s x (leg_exact m n d) (52 + d) places scale stands
