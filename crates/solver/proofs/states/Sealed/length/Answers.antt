use Rattle.solver.proofs.Reserve.{bounded_count}
use Rattle.solver.proofs.states.Sealed.length.Goals as goal

pub returns-clause-bound : goal.returns-clause-bound
returns-clause-bound g c =
    let source = c.args.self.now.source in
    bounded_count g.F.NumberForm.encoding (g.R.RootSource.meaning source) g.met.F.NumberForm.lawful (g.met.R.RootSource.sound source) c.args.call c.length_of.result c.length_of.ensures.value
