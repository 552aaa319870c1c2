use Rattle.lengths.proofs.RightLengths.{right_lengths}
use Rattle.lengths.proofs.theorems.lengths_are_right.Goals as goal

pub returns : goal.returns
returns g c = right_lengths
