-- What is printed of a request.
use Rattle.std.specs.Prelude.{ℕ, List, Option, Some, codes}
use Rattle.lengths.specs.CallText.{call_text}
use Rattle.solver.specs.declared.log.Request.{Request}
use Rattle.solver.specs.declared.log.Request.TheVariants.{Length, NewScan}

-- of patterns whose numbers are known
abbrev pub request_text : {P : Type 0} → (P → Option ℕ) → Request P → Option (List ℕ)
request_text number (Length call) = call_text number call
request_text number NewScan = Some (codes "new scan")
