use Rattle.std.proofs.Common.{◌-◌, Ok, Err, rules}
use Rattle.solver.specs.declared.refusal.CallRefusal.TheVariants.{TooFewSteps}
use Rattle.solver.specs.Serving.{with_steps_left}
use Rattle.solver.proofs.Extensions.{logs_call}
use Rattle.solver.proofs.states.Sealed.measure.Goals as goal

pub returns-then-not-can_serve-clause-log : goal.returns-then-not-can_serve-clause-log
returns-then-not-can_serve-clause-log g c =
    let solver = c.args.self.now in
    logs_call g.F.NumberForm.encoding g.R.RootSource.meaning solver solver c.args.call (Err (TooFewSteps solver.steps_left)) (search rules) (search rules)

pub returns-clause-log : goal.returns-clause-log
returns-clause-log g c =
    let solver = c.args.self.now in
    let after = with_steps_left solver (solver.steps_left - c.length-length.result.count) in
    logs_call g.F.NumberForm.encoding g.R.RootSource.meaning solver after c.args.call (Ok c.length-length.result) (search rules) (search rules)
