use Rattle.std.proofs.Common.{◌∙◌, arith}
use Rattle.exact.proofs.Words.{shifted_round}
use Rattle.exact.proofs.length.rounded.Goals as goal

pub returns : goal.returns
returns c =
    c.round_half.ensures
    ∙ shifted_round c.args.n c.args.exponent c.isqrt-twice.result (omega (arith, c.if-exponent-eq0.false)) c.ranges.n.fits c.isqrt-twice.ensures.square_le c.isqrt-twice.ensures.next_square_gt
