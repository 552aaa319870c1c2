use mathlib.Core.Path.{sym}
use Prim.Native.Nat.{◌+◌}
use Rattle.head.specs.Head.{Heads}
use Rattle.head.specs.Bound.{three_exact, NearRoot, NearWithoutThird}
use Rattle.head.specs.Squares.{two_radicand, three_radicand}
use Rattle.sides.proofs.LowerSides.{d}
use Rattle.sides.proofs.NearHeads.{two_in_units, three_in_units}
use Rattle.sides.proofs.near.NearPair.sum_head.Goals as goal

pub returns-then-is_far : goal.returns-then-is_far
returns-then-is_far c =
    let p = c.args.self in
    let s = p.largest in
    let t = p.other in
    let e = c.for_head-sides.ensures in
    let h = c.two_head.result in
    let heads : Heads (two_radicand s.significand t.significand (d s t)) h.word h.places = rw (e.largest, e.other, e.below) at c.two_head.ensures.heads in
    let far : NearWithoutThird s.significand t.significand (d s t) h.word h.places = rw (e.largest, e.other, e.below) at c.two_head.ensures.far in
    let u = two_in_units s t c.args.third p.some p.order c.requires p.near (sym c.if-is_far.ensures) h.word h.places heads far in
    record { heads = u.0; near = u.1; places = c.two_head.ensures.places }

pub returns : goal.returns
returns c =
    let p = c.args.self in
    let s = p.largest in
    let t = p.other in
    let r = c.args.third in
    let e = c.for_head-sides.ensures in
    let f = c.near_side.ensures in
    let h = c.three_head.result in
    let heads : Heads (three_radicand s.significand t.significand (d s t) r.significand (d s r)) h.word h.places = rw (e.largest, e.other, e.below, f.other, f.below) at c.three_head.ensures.heads in
    let near : NearRoot (three_exact s.significand t.significand (d s t) r.significand (d s r)) (52 + d s t + d s r) h.word h.places = rw (e.largest, e.other, e.below, f.other, f.below) at c.three_head.ensures.near in
    let u = three_in_units s t r p.some p.order c.requires p.near (sym c.if-is_far.ensures) h.word h.places heads near in
    record { heads = u.0; near = u.1; places = c.three_head.ensures.places }
