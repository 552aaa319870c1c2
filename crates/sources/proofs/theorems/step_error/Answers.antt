use Rattle.sources.specs.Refining.{step_error}
use Rattle.sources.proofs.theorems.step_error.Goals as goal

pub returns : goal.returns
returns c = step_error
