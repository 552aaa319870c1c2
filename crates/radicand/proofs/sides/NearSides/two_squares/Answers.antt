use Rattle.std.proofs.Common.{arith}
use Rattle.radicand.specs.Limbs.{Counts, Held}
use Rattle.radicand.proofs.SideSquares.{sum_held, whole_units}
use Rattle.radicand.proofs.sides.NearSides.two_squares.Goals as goal

pub returns : goal.returns
unfolding Counts Held
returns c = record {
  value = whole_units _ _ c.args.self.other.below c.near_sum.ensures.value;
  held = λ p h. sum_held _ p (omega (arith, c.near_sum.ensures.bound)) h;
}
