-- Sides that are not all far have a head, and its root is at most four from that of their radicand.
use mathlib.Core.Path.{◌≡◌, refl, sym, subst}
use mathlib.Core.Bool.{Bool, true, false}
use mathlib.Core.List.{List, [], ◌∷◌}
use Prim.Native.Nat.{ℕ, ◌+◌, ◌-◌, ◌*◌, ◌^◌, ◌≤◌, ◌<◌}
use native.Mathlib.Nat.{le_of_lt}
use native.Mathlib.Omega.{arith}
use lib.Dec.{T}
use lib.Ieee.{Float, binary64, fits, size}
use Rattle.head.specs.Head.{Heads, Ordinary}
use Rattle.head.specs.Bound.{three_exact, leg_exact, NearRoot, NearWithoutThird}
use Rattle.head.specs.Squares.{two_radicand, three_radicand, leg_radicand}
use Rattle.head.proofs.Heads.{head_exists}
use Rattle.head.proofs.Radicands.{two_ordinary, two_far, three_ordinary, three_near, leg_ordinary, leg_near}
use Rattle.sides.specs.declared.side.Side.{Side}
use Rattle.sides.specs.Order.{side_units, is_far}
use Rattle.sides.specs.HeadSum.{sum_in_order, head_difference}
use Rattle.sides.specs.Poses.{squares, squares_apart}
use Rattle.sides.proofs.Fractions.{near_root_for}
use Rattle.sides.proofs.HeadSums.{two_fit, three_fit, leg_fit}
use Rattle.sides.proofs.LowerSides.{d, side_full, lower_full, lower_close, lower_far, lower_shorter, leg_sum, two_sum, three_sum, leg_scale, three_scale}

-- a head of h that is near the radicand n over sides of which the largest is given
pub record NearHead (h : Float) (n largest : ℕ) : Type 0 where
  pub word : ℕ
  pub places : ℕ
  pub fit : T (fits binary64 h)
  pub heads : Heads h word places
  pub near : NearRoot n (size largest - 1) word places

-- a head by significands is one in units: g is the float of the radicand x / 4 ^ c
module _ (h g : Float) (n x c : ℕ) (s : Side) (same : h ≡ g) (scale : x * 4 ^ (s.bits - 1) ≡ n * 4 ^ c) (w a : ℕ) where
  in_units : Heads g w a → NearRoot x c w a → Heads h w a × NearRoot n (size (side_units s) - 1) w a
  in_units heads near = (
    subst (λ (f : Float). Heads f w a) (sym same) heads,
    subst (λ (z : ℕ). NearRoot n (z - 1) w a) s.sized.1 (near_root_for x c n (s.bits - 1) w a scale near),
  )

near_head : (h g : Float) (n largest : ℕ) → h ≡ g → T (fits binary64 g) → Ordinary g
    → ((w a : ℕ) → Heads g w a → Heads h w a × NearRoot n (size largest - 1) w a) → NearHead h n largest
near_head h g n largest same f o in_units =
    let k = head_exists g f o in
    let u = in_units k.word k.places k.heads in
    record { word = k.word; places = k.places; fit = subst (λ (x : Float). T (fits binary64 x)) (sym same) f; heads = u.0; near = u.1 }

-- a leg
module _ (s t : Side) (l : side_units t < side_units s) where
  some_longer : 0 < side_units s
  some_longer = omega arith

  pub leg_in_units : (w a : ℕ) → Heads (leg_radicand s.significand t.significand (d s t)) w a → NearRoot (leg_exact s.significand t.significand (d s t)) (52 + d s t) w a
      → Heads (head_difference (side_units s) (side_units t)) w a × NearRoot (squares_apart (side_units s) (side_units t)) (size (side_units s) - 1) w a
  leg_in_units w a h near =
      in_units (head_difference (side_units s) (side_units t)) (leg_radicand s.significand t.significand (d s t)) (squares_apart (side_units s) (side_units t))
      (leg_exact s.significand t.significand (d s t)) (52 + d s t) s (leg_sum s t some_longer (le_of_lt l)) (leg_scale s t l) w a h near

  pub leg_near_head : is_far (side_units s) (side_units t) ≡ false
      → NearHead (head_difference (side_units s) (side_units t)) (squares_apart (side_units s) (side_units t)) (side_units s)
  leg_near_head g =
      let m = s.significand in
      let n = t.significand in
      let F = side_full s some_longer in
      let G = lower_full s t some_longer g in
      let C = lower_close s t some_longer g in
      let L = lower_shorter s t l in
      near_head (head_difference (side_units s) (side_units t)) (leg_radicand m n (d s t)) (squares_apart (side_units s) (side_units t)) (side_units s)
      (leg_sum s t some_longer (le_of_lt l)) (leg_fit m n (d s t)) (leg_ordinary m n (d s t) F G C L)
      (λ w a h. leg_in_units w a h (leg_near m n (d s t) F G C L w a h))

-- three sides in descending order, the second not far
module _ (s t r : Side) (some : 0 < side_units s) (second : side_units t ≤ side_units s) (third : side_units r ≤ side_units s) (g : is_far (side_units s) (side_units t) ≡ false) where
  abbrev m : ℕ
  m = s.significand

  abbrev n : ℕ
  n = t.significand

  abbrev k : ℕ
  k = r.significand

  abbrev units_of : List ℕ
  units_of = side_units s ∷ side_units t ∷ side_units r ∷ []

  scale : three_exact m n (d s t) k (d s r) * 4 ^ (s.bits - 1) ≡ squares units_of * 4 ^ (52 + d s t + d s r)
  scale = subst (λ (z : ℕ). three_exact m n (d s t) k (d s r) * 4 ^ (s.bits - 1) ≡ squares units_of * 4 ^ z) (omega arith) (three_scale s t r some second third)

  -- the third of them far
  pub two_in_units : is_far (side_units s) (side_units r) ≡ true → (w a : ℕ) → Heads (two_radicand m n (d s t)) w a → NearWithoutThird m n (d s t) w a
      → Heads (sum_in_order units_of) w a × NearRoot (squares units_of) (size (side_units s) - 1) w a
  two_in_units f w a h near =
      in_units (sum_in_order units_of) (two_radicand m n (d s t)) (squares units_of) (three_exact m n (d s t) k (d s r)) (52 + d s t + d s r) s
      (two_sum s t (side_units r) some second g f) scale w a h (near k (d s r) (lower_far s r third f))

  -- or not
  pub three_in_units : is_far (side_units s) (side_units r) ≡ false → (w a : ℕ) → Heads (three_radicand m n (d s t) k (d s r)) w a
      → NearRoot (three_exact m n (d s t) k (d s r)) (52 + d s t + d s r) w a
      → Heads (sum_in_order units_of) w a × NearRoot (squares units_of) (size (side_units s) - 1) w a
  three_in_units f w a h near =
      in_units (sum_in_order units_of) (three_radicand m n (d s t) k (d s r)) (squares units_of) (three_exact m n (d s t) k (d s r)) (52 + d s t + d s r) s
      (three_sum s t r some second third g f) scale w a h near

  by_far : (b : Bool) → is_far (side_units s) (side_units r) ≡ b → NearHead (sum_in_order units_of) (squares units_of) (side_units s)
  by_far true f =
      let F = side_full s some in
      let G = lower_full s t some g in
      let C = lower_close s t some g in
      near_head (sum_in_order units_of) (two_radicand m n (d s t)) (squares units_of) (side_units s) (two_sum s t (side_units r) some second g f)
      (two_fit m n (d s t)) (two_ordinary m n (d s t) F G C)
      (λ w a h. two_in_units f w a h (two_far m n (d s t) F G C w a h))
  by_far false f =
      let F = side_full s some in
      let G = lower_full s t some g in
      let C = lower_close s t some g in
      let H = lower_full s r some f in
      let D = lower_close s r some f in
      near_head (sum_in_order units_of) (three_radicand m n (d s t) k (d s r)) (squares units_of) (side_units s) (three_sum s t r some second third g f)
      (three_fit m n (d s t) k (d s r)) (three_ordinary m n (d s t) k (d s r) F G C H D)
      (λ w a h. three_in_units f w a h (three_near m n (d s t) k (d s r) F G C H D w a h))

  pub sum_near_head : NearHead (sum_in_order units_of) (squares units_of) (side_units s)
  sum_near_head = by_far (is_far (side_units s) (side_units r)) refl
