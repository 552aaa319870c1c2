use Rattle.std.proofs.Common.{◌≡◌, take, vec_items}
use Rattle.solver.specs.Log.{Logs, requests_of}
use Rattle.solver.proofs.session.entries.Given as goal

abbrev pub invariant-loop-request : goal.invariant-loop-request
invariant-loop-request g l =
    Logs g.F.NumberForm.encoding g.R.RootSource.meaning l.initial.solver (vec_items l.log) l.solver
    × (requests_of (vec_items l.log) ≡ take l.request-index l.requests)
