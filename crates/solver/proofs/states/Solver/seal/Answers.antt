use Rattle.std.proofs.Common.{Ok, rules}
use Rattle.solver.specs.Sealing.{just_sealed}
use Rattle.solver.proofs.Extensions.{opens_log}
use Rattle.solver.proofs.states.Solver.seal.Goals as goal

pub returns-clause-log : goal.returns-clause-log
returns-clause-log g c =
    opens_log g.F.NumberForm.encoding g.R.RootSource.meaning c.args.self c.args.allowance (Ok (just_sealed c.args.self c.args.allowance)) (search rules)
