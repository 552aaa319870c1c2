use Rattle.exact.proofs.Lengths.{length_exists, length_unique}
use Rattle.exact.proofs.theorems.length_is_determined.Goals as goal

pub returns : goal.returns
returns c = record { exists = length_exists; unique = length_unique }
