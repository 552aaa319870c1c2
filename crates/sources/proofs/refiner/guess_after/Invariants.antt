use Rattle.std.proofs.Common.{◌≡◌, ◌^◌, ◌<◌, ◌≤◌}
use Rattle.sources.specs.Refined.{refined_guess, repeated}
use Rattle.sources.proofs.refiner.guess_after.Given as goal

abbrev pub invariant-loop-step : goal.invariant-loop-step
invariant-loop-step l = (l.guess ≡ repeated l._step (refined_guess l.word) l.proposal) × (2 ^ 53 ≤ l.guess) × (l.guess < 2 ^ 54)
