use Rattle.std.proofs.Common.{arith}
use Rattle.radicand.specs.Limbs.{Counts, Held}
use Rattle.radicand.specs.Sides.{two_squares, three_squares}
use Rattle.radicand.proofs.SideSquares.{square_bound, cut_at_most, sum_held, with_far}
use Rattle.radicand.proofs.sides.NearSides.three_squares.Goals as goal

pub returns : goal.returns
unfolding Counts Held two_squares three_squares
returns c =
    let s = c.args.self in
    let k = c.args.third in
    record {
      value = with_far s.largest s.other.significand s.other.below k.significand k.below _ _ _ _ _ _ c.near_sum.ensures.value c.squared.ensures c.plus_cut.ensures.sum c.plus_cut.ensures.cut c.far-square.ensures;
      held = λ p h. sum_held _ p (omega (arith, c.plus_cut.ensures.sum, c.near_sum.ensures.bound, c.squared.ensures, cut_at_most _ _ _ _ c.far-square.ensures, square_bound k.significand k.short)) h;
    }
