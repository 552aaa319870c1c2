use Rattle.lengths.proofs.Computed.{all_come_out}
use Rattle.lengths.proofs.examples.worked_examples.Goals as goal

pub returns : goal.returns
returns c = all_come_out
