use Rattle.std.proofs.Common.{◌∙◌, arith}
use Rattle.radicand.specs.Limbs.{units, Counts, Held}
use Rattle.radicand.specs.Sides.{leg_square}
use Rattle.radicand.proofs.SideSquares.{no_larger, leg_whole, leg_held, whole_units}
use Rattle.radicand.proofs.sides.NearSides.leg_square.Goals as goal

pub sub-requires : goal.sub-requires
sub-requires c =
    let n = c.args.self.other in
    omega (arith, c.squared.ensures, no_larger c.args.self.largest n.significand n.below (units c.near_square.result) 0 c.near_square.ensures c.requires)

pub returns : goal.returns
unfolding Counts Held leg_square
returns c =
    let n = c.args.self.other in
    let whole = leg_whole c.args.self.largest n.significand n.below (units c.near_square.result) (units c.sub.result) c.near_square.ensures c.requires (c.sub.ensures ∙ c.squared.ensures) in
    record {
      value = whole_units _ _ n.below whole;
      held = λ p h l. leg_held _ _ n.below p h whole l;
    }
