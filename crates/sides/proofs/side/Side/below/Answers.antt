use Rattle.sides.proofs.LowerSides.{fewer, side_short}
use Rattle.sides.proofs.side.Side.below.Goals as goal

pub overflow_sub-result : goal.overflow_sub-result
overflow_sub-result c = fewer c.args.largest c.args.self c.requires

pub invariant_of-result : goal.invariant_of-result
invariant_of-result c = record { short = side_short c.args.self }
