use Rattle.solver.proofs.LogLaw.{every_log}
use Rattle.solver.proofs.OneLog.{one_log}
use Rattle.solver.proofs.log.log_law.Goals as goal

pub returns : goal.returns
returns g c = record { every = λ encoding source lawful sound. every_log encoding source lawful sound; one = λ encoding source. one_log encoding source }
