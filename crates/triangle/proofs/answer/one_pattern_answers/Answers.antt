use Rattle.triangle.proofs.Answering.{one_answer}
use Rattle.triangle.proofs.answer.one_pattern_answers.Goals as goal

pub returns : goal.returns
returns g c = one_answer
