-- What a sealed solver replies to a request: what it has done, or why it refuses.
use Rattle.std.specs.Prelude.{Result}
use Rattle.solver.specs.declared.refusal.CallRefusal.{CallRefusal}
use Rattle.solver.specs.declared.log.Done.{Done}

abbrev pub Reply : Type 0 → Type 0
Reply P = Result (Done P) CallRefusal
