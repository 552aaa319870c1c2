use Rattle.commands.proofs.LongLines.{first_bytes_decide}
use Rattle.commands.proofs.parse.first_bytes_decide.Goals as goal

pub returns : goal.returns
returns c = first_bytes_decide
