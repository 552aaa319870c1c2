use Rattle.std.proofs.Common.{ℕ, ◌*◌, ◌^◌, ap, arith}
use Rattle.radicand.specs.Sides.{two_squares}
use Rattle.radicand.proofs.SideSquares.{near_bound}
use Rattle.radicand.proofs.sides.NearSides.near_sum.Goals as goal

pub add-requires : goal.add-requires
add-requires c =
    let s = c.args.self in
    omega (arith, near_bound s.largest s.other.significand s.other.below _ _ s.short s.other.short c.squared.ensures c.near_square.ensures)

pub returns : goal.returns
unfolding two_squares
returns c =
    let s = c.args.self in
    let p = 4 ^ s.other.below in
    record {
      value = omega (arith, c.near_square.ensures, ap (λ (x : ℕ). x * p) c.add.ensures, ap (λ (x : ℕ). x * p) c.squared.ensures);
      bound = omega (arith, c.add.ensures, near_bound s.largest s.other.significand s.other.below _ _ s.short s.other.short c.squared.ensures c.near_square.ensures);
    }
