use Rattle.floats.proofs.Pairs.{pair}
use Rattle.floats.proofs.double_double.DoubleDouble.from_full_exact_add.Goals as goal

pub returns : goal.returns
returns c =
    let s = c.sum_and_loss in
    pair c.args.a c.args.b s.result.hi s.result.lo c.well_formed.0.1 c.well_formed.1.0.1 c.requires.first c.requires.second s.ensures.high s.ensures.low
