use Rattle.floats.proofs.Pairs.{ordered_pair}
use Rattle.floats.proofs.double_double.DoubleDouble.from_exact_add.Goals as goal

pub returns : goal.returns
returns c =
    let s = c.sum-and-loss-of-b in
    ordered_pair c.args.a c.args.b s.result.hi s.result.lo c.well-formed.0.1 c.well-formed.1.0.1 c.requires.first c.requires.second s.ensures.high s.ensures.low c.requires.ordered
