-- Worked proposals.
use Rattle.std.specs.Prelude.{◌≡◌, ℕ, ◌+◌, ◌-◌, ◌*◌, ◌^◌, Some, None}
use Rattle.sources.specs.Source.{WordRoot, proposed, exact_source}
use Rattle.sources.specs.Table.{table_source}
use Rattle.sources.specs.Refined.{refined}
use Rattle.sources.specs.Refiner.{steps_refused}

-- the digit source proposes the root itself
abbrev pub ProposesRoot : Type 0
ProposesRoot = (w : ℕ) → WordRoot w (exact_source.proposal w)

pub record WorkedProposals : Type 0 where
  -- the digit source: the least word, the middle, the largest, and one below the least
  pub least : proposed exact_source (2 ^ 62) ≡ Some (2 ^ 53)
  pub middle : proposed exact_source (2 ^ 63) ≡ Some 0x2d413cccfe7799
  pub most : proposed exact_source (2 ^ 64 - 1) ≡ Some (2 ^ 54 - 1)
  pub below : proposed exact_source (2 ^ 62 - 1) ≡ None
  -- the table source
  pub table_least : proposed table_source (2 ^ 62) ≡ Some (2 ^ 53)
  pub table_most : proposed table_source (2 ^ 64 - 1) ≡ Some (16351 * 2 ^ 40)
  -- the grades of the table with two steps and with three
  pub two_steps : (refined 2 table_source).grade ≡ 29
  pub three_steps : (refined 3 table_source).grade ≡ 5
  -- a step from the root itself may leave it by one, which the grade 0 allows, and the next may come back
  pub one_step : proposed (refined 1 exact_source) (2 ^ 62 + 1024) ≡ Some (2 ^ 53 + 1)
  pub two_steps_back : proposed (refined 2 exact_source) (2 ^ 62 + 1024) ≡ Some (2 ^ 53)
  -- a step is kept below 2 ^ 54
  pub kept : proposed (refined 1 table_source) (2 ^ 64 - 1) ≡ Some (2 ^ 54 - 1)
  -- a refused number of steps has this number
  pub refusal : steps_refused ≡ 1
