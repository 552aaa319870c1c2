-- Sealing a solver, and breaking the seal.
use Rattle.std.specs.Prelude.{◌≡◌, ℕ, ◌+◌, ◌^◌, cond, ◌||◌, Some, None, Ok, Err, Option, Result, nat_lt}
use Rattle.sources.specs.Source.{Source}
use Rattle.solver.specs.declared.refusal.SealRefusal.{SealRefusal}
use Rattle.solver.specs.declared.refusal.SealRefusal.TheVariants.{Grade, Allowance}
use Rattle.solver.specs.declared.states.Solver.{Solver}
use Rattle.solver.specs.declared.states.Sealed.{Sealed}
use Rattle.solver.specs.declared.states.SealRefused.{SealRefused}

-- the steps that a length call may take: the proposal lies at most 2 ^ grade from the root of the head, and that at most 4
-- from the floor root
abbrev pub reserve : Source → ℕ
reserve source = 2 ^ source.grade + 4

-- why a sealing with this allowance is refused, if it is: the grade is looked at first
abbrev pub sealing : Source → ℕ → Option SealRefusal
sealing source allowance =
    cond (nat_lt 7 source.grade) (Some (Grade source.grade))
    (cond (nat_lt allowance (reserve source) || nat_lt 1000000 allowance) (Some (Allowance allowance)) None)

-- the limits of grade and allowance, from inside and from outside, whatever the proposals are
pub record SealingLimits : Type 0 where
  pub finest : (proposal : ℕ → ℕ) → sealing (record { grade = 0; proposal = proposal }) 5 ≡ None
  pub too_few : (proposal : ℕ → ℕ) → sealing (record { grade = 0; proposal = proposal }) 4 ≡ Some (Allowance 4)
  pub coarsest : (proposal : ℕ → ℕ) → sealing (record { grade = 7; proposal = proposal }) 132 ≡ None
  pub too_few_for_coarsest : (proposal : ℕ → ℕ) → sealing (record { grade = 7; proposal = proposal }) 131 ≡ Some (Allowance 131)
  pub most : (proposal : ℕ → ℕ) → sealing (record { grade = 7; proposal = proposal }) 1000000 ≡ None
  pub too_many : (proposal : ℕ → ℕ) → sealing (record { grade = 7; proposal = proposal }) 1000001 ≡ Some (Allowance 1000001)
  -- a grade that is too coarse is refused by itself, whatever the allowance is
  pub too_coarse : (proposal : ℕ → ℕ) → sealing (record { grade = 8; proposal = proposal }) 1000000 ≡ Some (Grade 8)
  pub coarse_with_little : (proposal : ℕ → ℕ) → sealing (record { grade = 8; proposal = proposal }) 0 ≡ Some (Grade 8)
  pub coarse_with_much : (proposal : ℕ → ℕ) → sealing (record { grade = 8; proposal = proposal }) 1000001 ≡ Some (Grade 8)

-- a solver just sealed has its whole allowance left
abbrev pub just_sealed : {F R : Type 0} → Solver F R → ℕ → Sealed F R
just_sealed solver allowance = record { form = solver.form; source = solver.source; allowance = allowance; steps_left = allowance }

abbrev pub sealed_unless : {F R : Type 0} → Option SealRefusal → Solver F R → ℕ → Result (Sealed F R) (SealRefused F R)
sealed_unless None solver allowance = Ok (just_sealed solver allowance)
sealed_unless (Some refusal) solver allowance = Err (record { refusal = refusal; solver = solver })

-- what a sealing gives, by what the sources mean
abbrev pub seal_result : {F R : Type 0} → (R → Source) → Solver F R → ℕ → Result (Sealed F R) (SealRefused F R)
seal_result meaning solver allowance = sealed_unless (sealing (meaning solver.source) allowance) solver allowance

-- the unsealed solver, with its source back
abbrev pub broken : {F R : Type 0} → Sealed F R → Solver F R
broken solver = record { form = solver.form; source = solver.source }
