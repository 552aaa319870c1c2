use Rattle.constant_source.specs.Constants.{grade_stays}
use Rattle.constant_source.proofs.steps_keep_the_grade.Goals as goal

pub returns : goal.returns
returns c = grade_stays
