use Rattle.sources.specs.TableReach.{table_reach}
use Rattle.sources.proofs.theorems.table_reach.Goals as goal

pub returns : goal.returns
returns c = table_reach
