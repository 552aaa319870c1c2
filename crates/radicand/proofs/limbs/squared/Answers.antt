use Rattle.radicand.proofs.Squares.{square}
use Rattle.radicand.proofs.limbs.squared.Goals as goal

pub returns : goal.returns
returns c = square c.args.m c.requires
