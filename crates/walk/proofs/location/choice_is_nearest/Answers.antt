use Rattle.walk.proofs.NearestChoice.{choice_is_nearest}
use Rattle.walk.proofs.location.choice_is_nearest.Goals as goal

pub returns : goal.returns
returns c = choice_is_nearest
