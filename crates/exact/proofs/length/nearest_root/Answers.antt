use Rattle.std.proofs.Common.{◌∙◌}
use Rattle.exact.proofs.Rounding.{nearer_root_is}
use Rattle.exact.proofs.length.nearest_root.Goals as goal

pub returns : goal.returns
returns c = c.nearer.ensures ∙ nearer_root_is c.args.n c.isqrt.result c.isqrt.ensures.square_le c.isqrt.ensures.next_square_gt
