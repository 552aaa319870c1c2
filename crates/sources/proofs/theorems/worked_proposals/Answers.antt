use Rattle.sources.proofs.Worked.{proposes_root, worked}
use Rattle.sources.proofs.theorems.worked_proposals.Goals as goal

pub returns : goal.returns
returns c = record { root = proposes_root; worked = worked }
