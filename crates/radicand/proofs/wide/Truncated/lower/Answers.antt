use Rattle.radicand.proofs.Truncations.{cut_twice}
use Rattle.radicand.proofs.wide.Truncated.lower.Goals as goal

pub returns-clause-over : goal.returns-clause-over
returns-clause-over c = λ v m t. cut_twice _ _ _ _ v m _ t c.lower-over.ensures
