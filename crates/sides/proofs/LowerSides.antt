-- A side beside the largest one: by significands, and by how many places the one lies below the other.
use mathlib.Core.Path.{◌≡◌}
use mathlib.Core.Bool.{true, false}
use mathlib.Core.List.{[], ◌∷◌}
use Prim.Native.Nat.{ℕ, ◌+◌, ◌-◌, ◌*◌, ◌^◌, ◌≤◌, ◌<◌}
use native.Mathlib.Nat.{le_of_lt}
use native.Mathlib.Omega.{arith}
use Rattle.head.specs.Side.{Full}
use Rattle.head.specs.Squares.{two_radicand, three_radicand, leg_radicand}
use Rattle.head.specs.Bound.{three_exact, leg_exact}
use Rattle.sides.specs.declared.side.Side.{Side}
use Rattle.sides.specs.Order.{side_units, is_far}
use Rattle.sides.specs.HeadSum.{sum_in_order, head_difference}
use Rattle.sides.specs.Poses.{squares, squares_apart}
use Rattle.sides.proofs.Orders.{side_at}
use Rattle.sides.proofs.Lowered.{short, some_bits, full, no_more_bits, near_some, near_below, far_below, shorter_below}
use Rattle.sides.proofs.HeadSums.{leg_is, two_are, three_are}
use Rattle.sides.proofs.Radicands.{leg_units, three_units}

module _ (s : Side) where
  pub side_short : s.significand < 2 ^ 53
  side_short = short (side_units s) s.significand s.bits (side_at s)

  pub side_full : 0 < side_units s → Full s.significand
  side_full h = full (side_units s) s.significand s.bits (side_at s) h

  pub side_bits : 0 < side_units s → 1 ≤ s.bits
  side_bits h = some_bits (side_units s) s.significand s.bits (side_at s) h

-- t lies d places below s
module _ (s t : Side) where
  abbrev pub d : ℕ
  d = s.bits - t.bits

  pub fewer : side_units t ≤ side_units s → t.bits ≤ s.bits
  fewer l = no_more_bits (side_units s) s.significand s.bits (side_units t) t.significand t.bits (side_at s) (side_at t) l

  -- the bits of the largest side
  pub bits_are : side_units t ≤ side_units s → s.bits ≡ t.bits + d
  bits_are l = let k = fewer l in omega arith

  pub lower_full : 0 < side_units s → is_far (side_units s) (side_units t) ≡ false → Full t.significand
  lower_full h g = side_full t (near_some (side_units s) s.significand s.bits (side_units t) t.significand t.bits (side_at s) (side_at t) h g)

  pub lower_close : 0 < side_units s → is_far (side_units s) (side_units t) ≡ false → d ≤ 28
  lower_close h g = omega (arith, near_below (side_units s) s.significand s.bits (side_units t) t.significand t.bits (side_at s) (side_at t) h g)

  pub lower_far : side_units t ≤ side_units s → is_far (side_units s) (side_units t) ≡ true → t.significand * 2 ^ 27 < s.significand * 2 ^ d
  lower_far l g = far_below (side_units s) s.significand s.bits (side_units t) t.significand t.bits (side_at s) (side_at t) l g

  pub lower_shorter : side_units t < side_units s → t.significand < s.significand * 2 ^ d
  lower_shorter l = shorter_below (side_units s) s.significand s.bits (side_units t) t.significand t.bits (side_at s) (side_at t) l

  pub leg_sum : 0 < side_units s → side_units t ≤ side_units s → head_difference (side_units s) (side_units t) ≡ leg_radicand s.significand t.significand d
  leg_sum h l = leg_is (side_units s) s.significand s.bits (side_units t) t.significand t.bits (side_at s) (side_at t) h l

  pub two_sum : (w : ℕ) → 0 < side_units s → side_units t ≤ side_units s → is_far (side_units s) (side_units t) ≡ false → is_far (side_units s) w ≡ true
      → sum_in_order (side_units s ∷ side_units t ∷ w ∷ []) ≡ two_radicand s.significand t.significand d
  two_sum w h l g k = two_are (side_units s) s.significand s.bits (side_units t) t.significand t.bits (side_at s) (side_at t) h l w g k

  pub leg_scale : side_units t < side_units s → leg_exact s.significand t.significand d * 4 ^ (s.bits - 1) ≡ squares_apart (side_units s) (side_units t) * 4 ^ (52 + d)
  leg_scale l =
      leg_units (side_units s) s.significand s.bits (side_units t) t.significand t.bits d (side_at s).scale (side_at t).scale
      (bits_are (le_of_lt l)) (side_bits s (omega arith)) (le_of_lt l) (le_of_lt (lower_shorter l))

-- two lower sides
module _ (s t r : Side) (some : 0 < side_units s) (second : side_units t ≤ side_units s) (third : side_units r ≤ side_units s) where
  pub three_sum : is_far (side_units s) (side_units t) ≡ false → is_far (side_units s) (side_units r) ≡ false
      → sum_in_order (side_units s ∷ side_units t ∷ side_units r ∷ []) ≡ three_radicand s.significand t.significand (d s t) r.significand (d s r)
  three_sum a b =
      three_are (side_units s) s.significand s.bits (side_units t) t.significand t.bits (side_at s) (side_at t) some second
      (side_units r) r.significand r.bits (side_at r) third a b

  pub three_scale : three_exact s.significand t.significand (d s t) r.significand (d s r) * 4 ^ (s.bits - 1) ≡ squares (side_units s ∷ side_units t ∷ side_units r ∷ []) * 4 ^ (52 + (d s t + d s r))
  three_scale =
      three_units (side_units s) s.significand s.bits (side_units t) t.significand t.bits (d s t) (side_at s).scale (side_at t).scale
      (bits_are s t second) (side_bits s some) (side_units r) r.significand r.bits (d s r) (side_at r).scale (bits_are s r third)
