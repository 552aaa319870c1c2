use Rattle.std.proofs.Common.{◌≡◌, ◌≤◌}
use Rattle.sources.specs.Refined.{refined_grade, repeated}
use Rattle.sources.proofs.refiner.grade_after.Given as goal

abbrev pub invariant-loop-step : goal.invariant-loop-step
invariant-loop-step l = (l.after ≡ repeated l._step refined_grade l.grade) × (l.after ≤ 53)
