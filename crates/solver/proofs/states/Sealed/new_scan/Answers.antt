use Rattle.std.proofs.Common.{rules}
use Rattle.solver.proofs.Extensions.{logs_scan}
use Rattle.solver.proofs.states.Sealed.new_scan.Goals as goal

pub returns-clause-log : goal.returns-clause-log
returns-clause-log g c = logs_scan g.F.NumberForm.encoding g.R.RootSource.meaning c.args.self.now _ (search rules)
