use Prim.Native.Nat.{◌+◌, ◌≤◌}
use native.Mathlib.Nat.{le_trans}
use native.Mathlib.Omega.{arith}
use Rattle.radicand.specs.Sides.{three_squares, head_scaled, denominator}
use Rattle.radicand.specs.Stands.{Stands}
use Rattle.sides.specs.Order.{side_units}
use Rattle.sides.specs.Listed.{ordered_units}
use Rattle.sides.specs.HeadSum.{sum_in_order}
use Rattle.sides.specs.Poses.{squares}
use Rattle.sides.proofs.LowerSides.{d, three_scale}
use Rattle.sides.proofs.NearHeads.{sum_near_head}
use Rattle.sides.proofs.Posing.{poses, sum_stands}
use Rattle.sides.proofs.pose.pose_sum.Goals as goal

pub returns : goal.returns
returns c =
    let sides = c.args.sides in
    let s = sides.first in
    let t = sides.second in
    let r = sides.third in
    let e = c.for_radicand.ensures in
    let f = c.below-third.ensures in
    let head = c.sum_head-head.result in
    let radicand = c.sum_of_three-radicand.result in
    let third : side_units r ≤ side_units s = le_trans sides.order.1 sides.order.0 in
    let places : head.places ≤ 57 = omega (arith, c.sum_head-head.ensures.places) in
    let stands : Stands radicand (head_scaled (three_squares s.significand t.significand (d s t) r.significand (d s r)) head.places) (denominator (d s t + d s r)) = rw (e.largest, e.other, e.below, f.significand, f.below) at c.sum_of_three-radicand.ensures in
    rw c.with_head.ensures
    (poses (sum_in_order (ordered_units sides)) (squares (ordered_units sides)) s head radicand c.requires.some
    (sum_near_head s t r c.requires.some sides.order.0 third c.requires.near).fit
    c.sum_head-head.ensures.heads c.sum_head-head.ensures.near
    (sum_stands radicand s (squares (ordered_units sides)) s.significand t.significand (d s t) r.significand (d s r) head.places (three_scale s t r c.requires.some sides.order.0 third) stands)
    c.sum_head-head.ensures.places.0 places)
