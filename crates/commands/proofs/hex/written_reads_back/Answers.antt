use Rattle.commands.proofs.ReadBack.{written_reads_back}
use Rattle.commands.proofs.hex.written_reads_back.Goals as goal

pub returns : goal.returns
returns c = written_reads_back
