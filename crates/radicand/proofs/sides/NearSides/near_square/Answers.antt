use Rattle.radicand.proofs.SideSquares.{near_whole}
use Rattle.radicand.proofs.sides.NearSides.near_square.Goals as goal

pub returns : goal.returns
returns c = let s = c.args.self.other in near_whole s.significand s.below _ _ _ c.args.self.near c.squared.ensures c.lower.ensures
