use Rattle.head.proofs.Sides.{pattern_number, pattern_side}
use Rattle.head.proofs.side.NearSide.scaled.Goals as goal

pub float_from_bits-result : goal.float_from_bits-result
float_from_bits-result c = let s = c.args.self in pattern_number _ s.significand s.below s.full s.close c.pattern.ensures

pub returns : goal.returns
returns c = let s = c.args.self in pattern_side _ s.significand s.below s.full s.close c.pattern.ensures
