use Rattle.std.proofs.Common.{vec_items}
use Rattle.solver.proofs.LogLaw.{every_log}
use Rattle.solver.proofs.Extensions.{whole_log, broken_same}
use Rattle.solver.proofs.session.keep_log.Goals as goal

pub returns-in-Ok-entries : goal.returns-in-Ok-entries
returns-in-Ok-entries g c =
    let encoding = g.F.NumberForm.encoding in
    let meaning = g.R.RootSource.meaning in
    let solver = c.args.solver in
    let log = vec_items c.in-Ok-entries.log in
    let sealed = c.in-Ok.ensures in
    let kept = c.in-Ok-entries.ensures in
    let whole = whole_log encoding meaning solver c.args.allowance c.in-Ok.sealed c.entries.new.solver c.steps_left.result log sealed.value sealed.log kept.log.0 c.steps_left.ensures in
    record {
      complete = whole;
      law = every_log encoding (meaning solver.source) g.met.F.NumberForm.lawful (g.met.R.RootSource.sound solver.source) c.args.allowance log c.steps_left.result whole;
      requests = kept.log.1;
      back = broken_same meaning solver c.break_seal.result c.args.allowance c.in-Ok.sealed c.entries.new.solver sealed.value kept.source c.break_seal.ensures;
    }
