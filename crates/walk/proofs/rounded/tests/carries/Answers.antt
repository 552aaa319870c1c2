use Rattle.std.proofs.Common.{◌-◌, ◌^◌, lit<, lit≤}
use Rattle.walk.proofs.Walks.{starts_near}
use Rattle.walk.proofs.rounded.tests.carries.Goals as goal

pub rounded_root-requires : goal.rounded_root-requires
rounded_root-requires g c = record { proposal = starts_near _ _ (2 ^ 54 - 1) (lit≤ tt) (lit< tt) (lit≤ tt) (lit< tt) (lit≤ tt); bits = lit< tt; precision = (lit≤ tt, lit≤ tt) }
