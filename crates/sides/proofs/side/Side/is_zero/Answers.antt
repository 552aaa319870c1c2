use Rattle.sides.proofs.Orders.{zero_test}
use Rattle.sides.proofs.side.Side.is_zero.Goals as goal

pub returns : goal.returns
returns c = zero_test c.args.self
