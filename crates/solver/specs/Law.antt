-- The law of a complete log.
use Rattle.std.specs.Prelude.{◌≡◌, ℕ, ◌+◌, ◌<◌, ◌≤◌, List, [], ◌∷◌, ◌++◌, None, Ok, Err}
use Rattle.forms.specs.Encoding.{Encoding}
use Rattle.sources.specs.Source.{Source}
use Rattle.lengths.specs.declared.call.Call.{Call}
use Rattle.lengths.specs.declared.call.Measured.{Measured}
use Rattle.lengths.specs.Right.{AnswersCall, CountsCall}
use Rattle.solver.specs.declared.refusal.CallRefusal.TheVariants.{TooFewSteps}
use Rattle.solver.specs.declared.log.Request.{Request}
use Rattle.solver.specs.declared.log.Request.TheVariants.{Length, NewScan}
use Rattle.solver.specs.Reply.{Reply}
use Rattle.solver.specs.declared.log.Done.TheVariants.{Served, Renewed}
use Rattle.solver.specs.declared.log.Entry.{Entry}
use Rattle.solver.specs.Sealing.{reserve, sealing}
use Rattle.solver.specs.Log.{Complete, length_entry, scan_entry, requests_of}

-- the counts of a scan with one entry more: a served call adds its count, a refused one nothing, and a new scan begins at zero
abbrev pub counted_with : {P : Type 0} → ℕ → Request P → Reply P → ℕ
counted_with sum NewScan reply = 0
counted_with sum (Length call) (Ok (Served measured)) = sum + measured.count
counted_with sum (Length call) (Err refusal) = sum
counted_with sum (Length call) (Ok Renewed) = sum

abbrev pub counted_from : {P : Type 0} → ℕ → List (Entry P) → ℕ
counted_from sum [] = sum
counted_from sum (entry ∷ log) = counted_from (counted_with sum entry.request entry.reply) log

-- the counts served since the latest sealing or new scan
abbrev pub counted : {P : Type 0} → List (Entry P) → ℕ
counted log = counted_from 0 log

-- what a log shows of a solver that was sealed with this allowance and has so many steps left at its end
pub record Law {P : Type 0} (encoding : Encoding P) (source : Source) (allowance : ℕ) (log : List (Entry P)) (left : ℕ) : Type 0 where
  -- a served pattern answers its call: in special cases and beyond the form it is the pattern that stands for them, and where
  -- the root lies within the form it is the value nearest to the root among all values of the form, of two equally near the even one
  pub answers : (before after : List (Entry P)) (call : Call P) (measured : Measured P) → log ≡ before ++ length_entry call (Ok (Served measured)) ∷ after
      → AnswersCall encoding call measured.pattern
  -- and no other pattern answers it
  pub one_pattern : (before after : List (Entry P)) (call : Call P) (measured : Measured P) (other : P) → log ≡ before ++ length_entry call (Ok (Served measured)) ∷ after
      → AnswersCall encoding call other → other ≡ measured.pattern
  -- a served count is the distance from the source's proposal for the head of the sides to the floor root, zero in a plain case
  pub counts : (before after : List (Entry P)) (call : Call P) (measured : Measured P) → log ≡ before ++ length_entry call (Ok (Served measured)) ∷ after
      → CountsCall encoding source call measured.count
  -- and at most 2 ^ grade + 4
  pub bounded : (before after : List (Entry P)) (call : Call P) (measured : Measured P) → log ≡ before ++ length_entry call (Ok (Served measured)) ∷ after
      → measured.count ≤ reserve source
  -- at the sealing and after every entry, the counts served since the latest sealing or new scan and the steps left make up the allowance
  pub account : (before after : List (Entry P)) → log ≡ before ++ after → (k : ℕ) × Complete encoding source allowance before k × (counted before + k ≡ allowance)
  pub account_now : counted log + left ≡ allowance
  -- a length call with k steps left before it is refused where they are fewer than 2 ^ grade + 4, and tells them
  pub refused : (before after : List (Entry P)) (call : Call P) (reply : Reply P) (k : ℕ) → log ≡ before ++ length_entry call reply ∷ after → counted before + k ≡ allowance
      → k < reserve source → reply ≡ Err (TooFewSteps k)
  -- and served where they are not
  pub served : (before after : List (Entry P)) (call : Call P) (reply : Reply P) (k : ℕ) → log ≡ before ++ length_entry call reply ∷ after → counted before + k ≡ allowance
      → reserve source ≤ k → (measured : Measured P) × (reply ≡ Ok (Served measured))
  -- a new scan is never refused
  pub scans : (before after : List (Entry P)) (reply : Reply P) → log ≡ before ++ scan_entry reply ∷ after → reply ≡ Ok Renewed

-- every complete log keeps the law
abbrev pub EveryLog : {P : Type 0} → Encoding P → Source → Type 0
EveryLog {P} encoding source = (allowance : ℕ) (log : List (Entry P)) (left : ℕ) → Complete encoding source allowance log left → Law encoding source allowance log left

-- every list of requests to a solver that can be sealed has a complete log, and no two
pub record OneLog {P : Type 0} (encoding : Encoding P) (source : Source) : Type 0 where
  pub some : (allowance : ℕ) → sealing source allowance ≡ None → (requests : List (Request P))
      → (log : List (Entry P)) × (left : ℕ) × Complete encoding source allowance log left × (requests_of log ≡ requests)
  pub same : (allowance : ℕ) (log other : List (Entry P)) (left rest : ℕ) → Complete encoding source allowance log left → Complete encoding source allowance other rest
      → requests_of log ≡ requests_of other → log ≡ other
