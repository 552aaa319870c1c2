use Rattle.sides.proofs.Sizes.{zero_sized, full_sized}
use Rattle.sides.proofs.side.Side.new.Goals as goal

pub invariant_of-result : goal.invariant_of-result
invariant_of-result c = record { sized = zero_sized c.args.magnitude.significand c.args.magnitude.exponent c.if-magnitude-eq0.true }

pub invariant_of-result-2 : goal.invariant_of-result-2
invariant_of-result-2 c = record {
  sized = full_sized c.args.magnitude.significand c.args.magnitude.exponent c.full_length-full.result.significand c.full_length-full.result.moved
      c.full_length-full.result.full c.full_length-full.ensures.value c.full_length-full.ensures.bound c.requires.low;
}
