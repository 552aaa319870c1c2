use native.Mathlib.Omega.{arith}
use Rattle.sides.proofs.LowerSides.{lower_full, lower_close}
use Rattle.sides.proofs.near.NearPair.near_side.Goals as goal

pub invariant_of-result : goal.invariant_of-result
invariant_of-result c =
    let p = c.args.self in
    record {
      full = rw c.below-lower.ensures.significand (lower_full p.largest p.other p.some p.near);
      close = omega (arith, c.below-lower.ensures.below, lower_close p.largest p.other p.some p.near);
    }
