use native.Mathlib.Omega.{arith}
use Rattle.sides.proofs.LowerSides.{side_short, lower_close}
use Rattle.sides.proofs.near.NearPair.for_radicand.Goals as goal

pub invariant_of-result : goal.invariant_of-result
invariant_of-result c =
    let p = c.args.self in
    record { short = side_short p.largest; near = omega (arith, c.below.ensures.below, lower_close p.largest p.other p.some p.near) }
