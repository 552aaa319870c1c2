use Rattle.std.proofs.Common.{◌^◌, lit<, lit≤}
use Rattle.walk.proofs.Walks.{starts_near}
use Rattle.walk.proofs.rounded.tests.least_bits.Goals as goal

pub rounded_root-requires : goal.rounded_root-requires
rounded_root-requires g c = record { proposal = starts_near _ _ (2 ^ 53) (lit≤ tt) (lit< tt) (lit≤ tt) (lit< tt) (lit≤ tt); bits = lit< tt; precision = (lit≤ tt, lit≤ tt) }

pub rounded_root-requires-2 : goal.rounded_root-requires-2
rounded_root-requires-2 g c = record { proposal = starts_near _ _ (2 ^ 53) (lit≤ tt) (lit< tt) (lit≤ tt) (lit< tt) (lit≤ tt); bits = lit< tt; precision = (lit≤ tt, lit≤ tt) }

pub rounded_root-requires-3 : goal.rounded_root-requires-3
rounded_root-requires-3 g c = record { proposal = starts_near _ _ (2 ^ 53) (lit≤ tt) (lit< tt) (lit≤ tt) (lit< tt) (lit≤ tt); bits = lit< tt; precision = (lit≤ tt, lit≤ tt) }
