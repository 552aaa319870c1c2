-- The float radicand of magnitudes is that of their significands: scaled sides are the same floats.
use mathlib.Core.Path.{◌≡◌, ap, ◌∙◌}
use mathlib.Core.Bool.{true, false, cond}
use mathlib.Core.List.{[], ◌∷◌}
use Prim.Native.Nat.{ℕ, ◌-◌, ◌≤◌, ◌<◌}
use native.Mathlib.Nat.{le_refl}
use native.Mathlib.Omega.{arith}
use lib.Dec.{T}
use lib.Ieee.{Float, binary64, fits}
use lib.Ieee.Fits.{add-fits, mul-fits}
use Rattle.head.specs.Side.{scaled_side}
use Rattle.head.specs.Squares.{two_squares, three_squares, squares_difference, two_radicand, three_radicand, leg_radicand}
use Rattle.sides.specs.Order.{is_far}
use Rattle.sides.specs.HeadSum.{scaled, scaled_square, add_squares, sum_in_order, head_difference}
use Rattle.sides.proofs.Sizes.{AtBits}
use Rattle.sides.proofs.Lowered.{scaled_is}

-- the largest side is its own scale
largest_is : (v n c : ℕ) → AtBits v n c → 0 < v → scaled v v ≡ scaled_side n 0
largest_is v n c q h = scaled_is v n c v n c q q h (le_refl v) ∙ ap (scaled_side n) (let e : c - c ≡ 0 = omega arith in e)

-- v is the largest side
module _ (v n c u m b : ℕ) (q : AtBits v n c) (p : AtBits u m b) (some : 0 < v) (l : u ≤ v) where
  sides_are : (f : Float → Float → Float) → f (scaled v v) (scaled v u) ≡ f (scaled_side n 0) (scaled_side m (c - b))
  sides_are f = λ i. f (largest_is v n c q some i) (scaled_is v n c u m b q p some l i)

  pub leg_is : head_difference v u ≡ leg_radicand n m (c - b)
  leg_is = sides_are squares_difference

  -- with the third side left out
  pub two_are : (w : ℕ) → is_far v u ≡ false → is_far v w ≡ true → sum_in_order (v ∷ u ∷ w ∷ []) ≡ two_radicand n m (c - b)
  two_are w f g =
      (λ i. add_squares v (scaled_square v v) (cond (f i) (cond (g i) [] (w ∷ [])) (u ∷ cond (g i) [] (w ∷ []))))
      ∙ sides_are two_squares

  pub three_are : (w k d : ℕ) → AtBits w k d → w ≤ v → is_far v u ≡ false → is_far v w ≡ false → sum_in_order (v ∷ u ∷ w ∷ []) ≡ three_radicand n m (c - b) k (c - d)
  three_are w k d r o f g =
      (λ i. add_squares v (scaled_square v v) (cond (f i) (cond (g i) [] (w ∷ [])) (u ∷ cond (g i) [] (w ∷ []))))
      ∙ (λ i. three_squares (largest_is v n c q some i) (scaled_is v n c u m b q p some l i) (scaled_is v n c w k d q r some o i))

-- they are floats of binary64
pub two_fit : (m n d : ℕ) → T (fits binary64 (two_radicand m n d))
two_fit m n d = add-fits binary64 _ _

pub three_fit : (m n d k e : ℕ) → T (fits binary64 (three_radicand m n d k e))
three_fit m n d k e = add-fits binary64 _ _

pub leg_fit : (m n d : ℕ) → T (fits binary64 (leg_radicand m n d))
leg_fit m n d = mul-fits binary64 _ _
