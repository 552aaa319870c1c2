-- The complete log of a sealed solver, in any number form and over any source.
use Rattle.std.specs.Prelude.{◌≡◌, ℕ, ◌-◌, ◌<◌, ◌≤◌, List, [], ◌∷◌, ◌++◌, None, Ok, Err, Result}
use Rattle.forms.specs.Encoding.{Encoding}
use Rattle.sources.specs.Source.{Source}
use Rattle.lengths.specs.declared.call.Call.{Call}
use Rattle.lengths.specs.declared.call.Measured.{Measured}
use Rattle.lengths.specs.LengthOf.{length_of}
use Rattle.solver.specs.declared.refusal.CallRefusal.{CallRefusal}
use Rattle.solver.specs.declared.refusal.CallRefusal.TheVariants.{TooFewSteps}
use Rattle.solver.specs.declared.states.Sealed.{Sealed}
use Rattle.solver.specs.declared.states.SealRefused.{SealRefused}
use Rattle.solver.specs.declared.log.Request.{Request}
use Rattle.solver.specs.declared.log.Request.TheVariants.{Length, NewScan}
use Rattle.solver.specs.Reply.{Reply}
use Rattle.solver.specs.declared.log.Done.TheVariants.{Served, Renewed}
use Rattle.solver.specs.declared.log.Entry.{Entry}
use Rattle.solver.specs.Sealing.{reserve, sealing}
use Rattle.solver.specs.Serving.{replied}

abbrev pub length_entry : {P : Type 0} → Call P → Reply P → Entry P
length_entry call reply = record { request = Length call; reply = reply }

abbrev pub scan_entry : {P : Type 0} → Reply P → Entry P
scan_entry reply = record { request = NewScan; reply = reply }

-- the next entry of a solver with so many steps left, and the steps left after it: a length call is served or refused by the
-- steps left alone, and a new scan sets them back to the allowance
pub data Next {P : Type 0} (encoding : Encoding P) (source : Source) (allowance left : ℕ) : Entry P → ℕ → Type 0 where
  serve : (call : Call P) → reserve source ≤ left
      → Next encoding source allowance left (length_entry call (Ok (Served (length_of encoding source call)))) (left - (length_of encoding source call).count)
  refuse : (call : Call P) → left < reserve source → Next encoding source allowance left (length_entry call (Err (TooFewSteps left))) left
  renew : Next encoding source allowance left (scan_entry (Ok Renewed)) allowance

-- the log is complete and leaves so many steps: a sealing that was not refused opens it, and each entry is the next one of the
-- solver as the entries before left it
pub data Complete {P : Type 0} (encoding : Encoding P) (source : Source) (allowance : ℕ) : List (Entry P) → ℕ → Type 0 where
  opens : sealing source allowance ≡ None → Complete encoding source allowance [] allowance
  goes_on : (log : List (Entry P)) (left : ℕ) (entry : Entry P) (after : ℕ)
      → Complete encoding source allowance log left → Next encoding source allowance left entry after
      → Complete encoding source allowance (log ++ entry ∷ []) after

-- the log is complete for this solver
abbrev pub CompleteFor : {F R P : Type 0} → Encoding P → (R → Source) → List (Entry P) → Sealed F R → Type 0
CompleteFor encoding meaning log solver = Complete encoding (meaning solver.source) solver.allowance log solver.steps_left

-- the solver keeps its source and its allowance, and every log that is complete for it goes on with these entries
pub record Logs {F R P : Type 0} (encoding : Encoding P) (meaning : R → Source) (before : Sealed F R) (entries : List (Entry P)) (after : Sealed F R) : Type 0 where
  pub same_source : after.source ≡ before.source
  pub same_allowance : after.allowance ≡ before.allowance
  pub goes_on : (log : List (Entry P)) → CompleteFor encoding meaning log before → CompleteFor encoding meaning (log ++ entries) after

-- the empty log is complete for a solver just sealed
abbrev pub OpensLog : {F R P : Type 0} → Encoding P → (R → Source) → Result (Sealed F R) (SealRefused F R) → Type 0
OpensLog encoding meaning (Ok solver) = CompleteFor encoding meaning [] solver
OpensLog encoding meaning (Err refused) = Unit {0}

-- the entry of a request and its reply
abbrev pub told : {P : Type 0} → Request P → Reply P → List (Entry P)
told request reply = record { request = request; reply = reply } ∷ []

-- the entry of a length call, from what it returned
abbrev pub told_call : {P : Type 0} → Call P → Result (Measured P) CallRefusal → List (Entry P)
told_call call result = told (Length call) (replied result)

-- the entry of a new scan
abbrev pub told_scan : {P : Type 0} → List (Entry P)
told_scan = told NewScan (Ok Renewed)

-- the requests of a log
abbrev pub requests_of : {P : Type 0} → List (Entry P) → List (Request P)
requests_of [] = []
requests_of (entry ∷ log) = entry.request ∷ requests_of log
