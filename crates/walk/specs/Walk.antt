-- The walk from a proposal to the floor root.
use Rattle.std.specs.Prelude.{ℕ, ◌+◌, ◌-◌, ◌^◌, ◌<◌, ◌≤◌}
use Rattle.exact.specs.Root.{isqrt}
use Rattle.radicand.specs.declared.words.Radicand.{Radicand}
use Rattle.radicand.specs.Stands.{radicand_floor}

-- how far apart two numbers are
abbrev pub distance : ℕ → ℕ → ℕ
distance a b = (a - b) + (b - a)

-- the most steps of a walk: 2 ^ 7 for a proposal of grade 7, and 4 since its word stands for the radicand only nearly
abbrev pub walk_limit : ℕ
walk_limit = 2 ^ 7 + 4

-- a proposal that a walk can start from
pub record Walkable (radicand : Radicand) (proposal : ℕ) : Type 0 where
  -- it has 54 bits
  pub least : 2 ^ 53 ≤ proposal
  pub most : proposal < 2 ^ 54
  -- and lies near the floor root, which may have a bit less or more
  pub near : distance proposal (isqrt (radicand_floor radicand)) ≤ walk_limit
