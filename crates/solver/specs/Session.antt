-- Why a session has no log.
use Rattle.std.specs.Prelude.{◌≡◌, ℕ, None, Err}
use Rattle.sources.specs.Source.{Source}
use Rattle.solver.specs.declared.states.Solver.{Solver}
use Rattle.solver.specs.declared.session.NoSession.{NoSession}
use Rattle.solver.specs.declared.session.NoSession.TheVariants.{Sealing, Memory}
use Rattle.solver.specs.Sealing.{sealing, seal_result}

-- its sealing was refused, or it was not and there was no memory for the log; the solver comes back as it was
abbrev pub NotKept : {F R : Type 0} → (R → Source) → Solver F R → ℕ → NoSession F R → Type 0
NotKept meaning solver allowance (Sealing refused) = seal_result meaning solver allowance ≡ Err refused
NotKept meaning solver allowance (Memory back) = (sealing (meaning solver.source) allowance ≡ None) × (back ≡ solver)
