use Rattle.radicand.proofs.Fractions.{without_third}
use Rattle.radicand.proofs.sides.NearSides.sum_of_three.Goals as goal

pub returns-then-third-eq0 : goal.returns-then-third-eq0
returns-then-third-eq0 c = let s = c.args.self in without_third _ s.largest s.other.significand s.other.below _ _ _ c.if-third-eq0.true c.sum_of_two.ensures
