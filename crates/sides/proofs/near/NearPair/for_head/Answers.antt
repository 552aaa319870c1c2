use Rattle.sides.proofs.LowerSides.{side_full}
use Rattle.sides.proofs.near.NearPair.for_head.Goals as goal

pub invariant_of-result : goal.invariant_of-result
invariant_of-result c = record { full = side_full c.args.self.largest c.args.self.some }
