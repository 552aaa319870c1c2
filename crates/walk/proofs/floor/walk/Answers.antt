use Rattle.std.proofs.Common.{◌+◌, ◌*◌, ◌^◌, ◌<◌, sym, ◌∙◌, true≢false, arith, w64, Fits, rules}
use Rattle.std.proofs.lemmas.Int.{ints}
use Rattle.radicand.specs.Stands.{whole}
use Rattle.walk.proofs.Walks.{residual_is, near_root, lies_below, lies_above, not_high, not_low, arrived, one_down, one_up}
use Rattle.walk.proofs.floor.walk.Goals as goal

pub loop-place-init : goal.loop-place-init
loop-place-init c =
    let p = c.args.proposal in
    let near = near_root (whole c.args.radicand.hi c.args.radicand.lo) p c.requires.most c.requires.near in
    let f : Fits w64 c.args.radicand.lo = search rules in
    let l : c.args.radicand.lo < 2 ^ 64 = f.fits in
    let e = residual_is c.args.radicand.hi c.args.radicand.lo (p * p) l near.below near.above in
    let h = c.cast_signed.ensures in
    (omega (arith, ints, h, e), omega arith)

pub loop-place-smaller-then-is_too_high : goal.loop-place-smaller-then-is_too_high
loop-place-smaller-then-is_too_high c =
    let n = whole c.args.radicand.hi c.args.radicand.lo in
    let g = c.loop-place.place.guess in
    let h = c.is_too_high.ensures.0 c.if-is_too_high.true in
    let d : n < g * g = omega (arith, ints, h) in
    omega (arith, lies_below n g d, c.down-place.ensures.guess)

pub loop-place-preserved-then-is_too_high : goal.loop-place-preserved-then-is_too_high
loop-place-preserved-then-is_too_high c =
    let n = whole c.args.radicand.hi c.args.radicand.lo in
    let g = c.loop-place.place.guess in
    let h = c.is_too_high.ensures.0 c.if-is_too_high.true in
    let d : n < g * g = omega (arith, ints, h) in
    let b = lies_below n g d in
    let e = one_down g c.down-place.result.guess (omega (arith, b)) c.down-place.ensures.guess in
    (omega (arith, ints, e), omega (arith, b))

pub loop-place-smaller : goal.loop-place-smaller
loop-place-smaller c =
    let n = whole c.args.radicand.hi c.args.radicand.lo in
    let g = c.loop-place.place.guess in
    let h = c.is_too_low.ensures.0 c.if-is_too_low.true in
    let d : g * g + 2 * g < n = omega (arith, ints, h) in
    omega (arith, lies_above n g d, c.up-place.ensures.guess)

pub loop-place-preserved : goal.loop-place-preserved
loop-place-preserved c =
    let n = whole c.args.radicand.hi c.args.radicand.lo in
    let g = c.loop-place.place.guess in
    let h = c.is_too_low.ensures.0 c.if-is_too_low.true in
    let d : g * g + 2 * g < n = omega (arith, ints, h) in
    let b = lies_above n g d in
    let e = one_up g c.up-place.result.guess c.up-place.ensures.guess in
    (omega (arith, ints, e), omega (arith, b))

pub returns : goal.returns
returns c =
    let n = whole c.args.radicand.hi c.args.radicand.lo in
    let g = c.loop-place.place.guess in
    let r = c.loop-place.place.residual in
    let low = not_high n g r c.loop-place.invariant.0 (λ h. true≢false (sym (c.is_too_high.ensures.1 h) ∙ c.if-is_too_high.false)) in
    let high = not_low n g r c.loop-place.invariant.0 (λ h. true≢false (sym (c.is_too_low.ensures.1 h) ∙ c.if-is_too_low.false)) in
    let e = arrived n g low high in
    record { root = e; residual = omega (arith, ints); count = omega (arith, c.abs_diff.ensures) }
