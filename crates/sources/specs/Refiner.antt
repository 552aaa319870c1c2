-- Making a refiner.
use Rattle.std.specs.Prelude.{ℕ, ◌≤◌}

-- the numbers of steps that a refiner takes
abbrev pub StepCount : ℕ → Type 0
StepCount steps = (1 ≤ steps) × (steps ≤ 4)

-- the number of the refusal of any other
abbrev pub steps_refused : ℕ
steps_refused = 1
