use Rattle.std.proofs.Common.{lit<}
use Rattle.radicand.specs.Sides.{leg_square, head_scaled, denominator}
use Rattle.radicand.proofs.sides.tests.the_leg_of_five_and_four.Goals as goal

pub difference-requires-clause-held : goal.difference-requires-clause-held
unfolding leg_square head_scaled denominator
difference-requires-clause-held g c = lit< tt
