-- Refusals by their numbers, with what they tell.
use Rattle.std.specs.Prelude.{ℕ, List, [], ◌++◌, Option, Some, None, codes, decimal}
use Rattle.solver.specs.declared.refusal.SealRefusal.{SealRefusal}
use Rattle.solver.specs.declared.refusal.SealRefusal.TheVariants.{Grade, Allowance}
use Rattle.solver.specs.declared.refusal.CallRefusal.{CallRefusal}
use Rattle.solver.specs.declared.refusal.CallRefusal.TheVariants.{TooFewSteps}
use Rattle.solver.specs.declared.refusal.Numbered.{Numbered}

abbrev pub seal_numbered : SealRefusal → Numbered
seal_numbered (Grade grade) = record { number = 2; place = None; value = Some grade }
seal_numbered (Allowance allowance) = record { number = 3; place = None; value = Some allowance }

abbrev pub call_numbered : CallRefusal → Numbered
call_numbered (TooFewSteps left) = record { number = 4; place = None; value = Some left }

-- the place and the value, where they are told
abbrev pub place_text : Option ℕ → List ℕ
place_text None = []
place_text (Some place) = codes " at " ++ decimal place

abbrev pub value_text : Option ℕ → List ℕ
value_text None = []
value_text (Some value) = codes " (" ++ decimal value ++ codes ")"

-- a refusal as it is printed
abbrev pub numbered_text : Numbered → List ℕ
numbered_text refusal = codes "refusal " ++ decimal refusal.number ++ place_text refusal.place ++ value_text refusal.value
