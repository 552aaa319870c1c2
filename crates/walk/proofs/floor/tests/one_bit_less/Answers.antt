use Rattle.std.proofs.Common.{◌-◌, ◌^◌, lit<, lit≤}
use Rattle.walk.proofs.Walks.{starts_near}
use Rattle.walk.proofs.floor.tests.one_bit_less.Goals as goal

pub walk-walked-requires : goal.walk-walked-requires
walk-walked-requires g c = starts_near _ _ (2 ^ 53 - 1) (lit≤ tt) (lit< tt) (lit≤ tt) (lit< tt) (lit≤ tt)
