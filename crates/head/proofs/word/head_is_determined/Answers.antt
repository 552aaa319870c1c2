use Rattle.head.proofs.Heads.{head_exists, head_unique}
use Rattle.head.proofs.ComputedHeads.{head_computed}
use Rattle.head.proofs.word.head_is_determined.Goals as goal

pub returns : goal.returns
returns c = record { exists = head_exists; unique = head_unique; computed = head_computed }
