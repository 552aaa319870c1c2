use Prim.Native.Nat.{ℕ, ◌+◌, ◌*◌, ◌^◌, ◌<◌}
use native.Mathlib.Omega.{arith}
use Rattle.head.specs.Head.{Heads}
use Rattle.head.specs.Squares.{leg_radicand}
use Rattle.head.specs.Bound.{leg_exact, NearRoot}
use Rattle.radicand.specs.Sides.{leg_square, head_scaled, denominator}
use Rattle.radicand.specs.Stands.{Stands}
use Rattle.sides.specs.Order.{side_units}
use Rattle.sides.specs.HeadSum.{head_difference}
use Rattle.sides.specs.Poses.{squares_apart}
use Rattle.sides.proofs.Fractions.{held}
use Rattle.sides.proofs.LowerSides.{d, lower_shorter, leg_scale}
use Rattle.sides.proofs.NearHeads.{leg_near_head, leg_in_units}
use Rattle.sides.proofs.Posing.{poses, leg_stands}
use Rattle.sides.proofs.pose.pose_leg.Goals as goal

pub leg_head-head-requires : goal.leg_head-head-requires
leg_head-head-requires c =
    let e = c.for_head.ensures in
    rw (e.largest, e.other, e.below) (lower_shorter c.args.hypotenuse c.args.leg c.requires.shorter)

pub difference-radicand-requires-clause-longer : goal.difference-radicand-requires-clause-longer
difference-radicand-requires-clause-longer c =
    let e = c.for_radicand.ensures in
    rw (e.largest, e.other, e.below) (lower_shorter c.args.hypotenuse c.args.leg c.requires.shorter)

-- the words hold the radicand of a near head
fits : (m n d word places : ℕ) → word < 2 ^ 64 → NearRoot (leg_exact m n d) (52 + d) word places → head_scaled (leg_square m n d) places < 2 ^ 130 * denominator d
unfolding head_scaled leg_square denominator
fits m n d word places w near = held (leg_exact m n d) (52 + d) word places w near

pub difference-radicand-requires-clause-held : goal.difference-radicand-requires-clause-held
difference-radicand-requires-clause-held c =
    let s = c.args.hypotenuse in
    let t = c.args.leg in
    let e = c.for_radicand.ensures in
    let f = c.for_head.ensures in
    let h = c.leg_head-head.result in
    let near : NearRoot (leg_exact s.significand t.significand (d s t)) (52 + d s t) h.word h.places = rw (f.largest, f.other, f.below) at c.leg_head-head.ensures.near in
    rw (e.largest, e.other, e.below) (fits s.significand t.significand (d s t) h.word h.places c.leg_head-head.ensures.heads.most near)

pub returns : goal.returns
returns c =
    let s = c.args.hypotenuse in
    let t = c.args.leg in
    let e = c.for_radicand.ensures in
    let f = c.for_head.ensures in
    let head = c.leg_head-head.result in
    let radicand = c.difference-radicand.result in
    let some : 0 < side_units s = omega (arith, c.requires.shorter) in
    let heads : Heads (leg_radicand s.significand t.significand (d s t)) head.word head.places = rw (f.largest, f.other, f.below) at c.leg_head-head.ensures.heads in
    let near : NearRoot (leg_exact s.significand t.significand (d s t)) (52 + d s t) head.word head.places = rw (f.largest, f.other, f.below) at c.leg_head-head.ensures.near in
    let stands : Stands radicand (head_scaled (leg_square s.significand t.significand (d s t)) head.places) (denominator (d s t)) = rw (e.largest, e.other, e.below) at c.difference-radicand.ensures in
    let u = leg_in_units s t c.requires.shorter head.word head.places heads near in
    rw c.with_head.ensures
    (poses (head_difference (side_units s) (side_units t)) (squares_apart (side_units s) (side_units t)) s head radicand some
    (leg_near_head s t c.requires.shorter c.requires.near).fit u.0 u.1
    (leg_stands radicand s (squares_apart (side_units s) (side_units t)) s.significand t.significand (d s t) head.places (leg_scale s t c.requires.shorter) stands)
    c.leg_head-head.ensures.least c.leg_head-head.ensures.places)
