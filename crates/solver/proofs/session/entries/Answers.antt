use Rattle.std.proofs.Common.{◌≡◌, [], vec_items, ap, ◌∙◌, rules}
use Rattle.std.proofs.lemmas.Result.{IfOk-from_err}
use Rattle.std.proofs.lemmas.List.{take_all}
use Rattle.solver.specs.Log.{requests_of}
use Rattle.solver.proofs.Extensions.{logs_none, logs_more, requests_next}
use Rattle.solver.proofs.session.entries.Goals as goal

pub returns-in_err-push : goal.returns-in_err-push
returns-in_err-push g c = record {
  log = IfOk-from_err c.from_residual.result _ c.from_residual.ensures.0;
  source = c.entry.ensures.log.same_source ∙ c.loop-request.invariant.0.same_source;
}

pub loop-request-init : goal.loop-request-init
loop-request-init g c =
    let empty : vec_items c.new-log.result ≡ [] = search rules in
    (logs_none g.F.NumberForm.encoding g.R.RootSource.meaning c.args.solver.now _ empty, ap requests_of empty)

pub loop-request-preserved : goal.loop-request-preserved
loop-request-preserved g c =
    let pushed = rw c.in_ok-push.was at c.push.ensures.items in
    let entries = vec_items c.loop-request.log in
    let more = vec_items c.push.new.self in
    let entry = c.entry.result in (
      logs_more g.F.NumberForm.encoding g.R.RootSource.meaning c.args.solver.now c.loop-request.solver c.entry.new.solver entries more entry pushed c.loop-request.invariant.0 c.entry.ensures.log,
      requests_next entries more entry c.request-item.result c.loop-request.request-index c.args.requests.now pushed c.entry.ensures.request c.loop-request-test.true c.request-item.is c.loop-request.invariant.1,
    )

pub returns : goal.returns
returns g c = record {
  log = (c.loop-request.invariant.0, c.loop-request.invariant.1 ∙ take_all c.loop-request.request-index c.args.requests.now c.loop-request-test.false);
  source = c.loop-request.invariant.0.same_source;
}
