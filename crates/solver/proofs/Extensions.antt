-- What a call returns goes on every complete log: the sealing that opened the log bounds the grade, so the steps left alone
-- decide between serving and refusing.
use Rattle.std.proofs.Common.{◌≡◌, ℕ, ◌+◌, ◌<◌, ◌≤◌, Bool, true, false, leb, List, [], ◌∷◌, ◌++◌, length, get_or, take, Some, None, Ok, Option, Result, sym, refl, ap, ◌∙◌, le-leb, leb-false, leb-true}
use Rattle.std.proofs.lemmas.List.{append_assoc, append-nil, take_more}
use Rattle.forms.specs.Encoding.{Encoding}
use Rattle.sources.specs.Source.{Source}
use Rattle.lengths.specs.declared.call.Call.{Call}
use Rattle.lengths.specs.declared.call.Measured.{Measured}
use Rattle.lengths.specs.LengthOf.{length_of}
use Rattle.solver.specs.declared.refusal.SealRefusal.{SealRefusal}
use Rattle.solver.specs.declared.refusal.CallRefusal.{CallRefusal}
use Rattle.solver.specs.declared.states.Solver.{Solver}
use Rattle.solver.specs.declared.states.Sealed.{Sealed}
use Rattle.solver.specs.declared.states.SealRefused.{SealRefused}
use Rattle.solver.specs.declared.log.Request.{Request}
use Rattle.solver.specs.declared.log.Done.TheVariants.{Renewed}
use Rattle.solver.specs.declared.log.Entry.{Entry}
use Rattle.solver.specs.Sealing.{reserve, sealing, just_sealed, sealed_unless, seal_result, broken}
use Rattle.solver.specs.Serving.{served_or_refused, left_after, call_result, after_call, after_scan, replied}
use Rattle.solver.specs.Log.{Next, Complete, CompleteFor, Logs, OpensLog, told_call, told_scan, length_entry, scan_entry, requests_of}
use Rattle.solver.specs.Log.Next.{serve, refuse, renew}
use Rattle.solver.specs.Log.Complete.{opens, goes_on}
use Rattle.solver.proofs.LogLaw.{sealed_grade, sealed_once}
use Rattle.solver.proofs.OneLog.{requests_more}

module _ {P : Type 0} (encoding : Encoding P) (source : Source) (allowance : ℕ) (call : Call P) where
  -- under a grade of at most 7, what a length call returns is the next entry
  length_next : (left : ℕ) → source.grade ≤ 7
      → Next encoding source allowance left (length_entry call (replied (served_or_refused source left (length_of encoding source call)))) (left_after source left (length_of encoding source call))
  length_next left small = go (leb (reserve source) left) refl
    where
      grade : leb source.grade 7 ≡ true
      grade = le-leb source.grade 7 small

      go : (b : Bool) → leb (reserve source) left ≡ b
          → Next encoding source allowance left (length_entry call (replied (served_or_refused source left (length_of encoding source call)))) (left_after source left (length_of encoding source call))
      go true e = simp (grade, e) (serve call (leb-true (reserve source) left e))
      go false e = simp (grade, e) (refuse call (leb-false (reserve source) left e))

  length_goes_on : (left : ℕ) (log : List (Entry P)) → Complete encoding source allowance log left
      → Complete encoding source allowance (log ++ told_call call (served_or_refused source left (length_of encoding source call))) (left_after source left (length_of encoding source call))
  length_goes_on left log h = goes_on log left _ _ h (length_next left (sealed_grade source allowance (sealed_once encoding source allowance log left h)))

-- a length call and a new scan on a sealed solver
module _ {F R P : Type 0} (encoding : Encoding P) (meaning : R → Source) (solver after : Sealed F R) where
  pub logs_call : (call : Call P) (result : Result (Measured P) CallRefusal) → result ≡ call_result encoding meaning solver call → after ≡ after_call encoding meaning solver call
      → Logs encoding meaning solver (told_call call result) after
  logs_call call result e w = rw (e, w) (record {
    same_source = refl;
    same_allowance = refl;
    goes_on = λ log h. length_goes_on encoding (meaning solver.source) solver.allowance call solver.steps_left log h;
  })

  pub logs_scan : after ≡ after_scan solver → Logs encoding meaning solver told_scan after
  logs_scan w = rw w (record {
    same_source = refl;
    same_allowance = refl;
    goes_on = λ log h. goes_on log solver.steps_left (scan_entry (Ok Renewed)) solver.allowance h renew;
  })

-- a sealing that was not refused opens a log
module _ {F R P : Type 0} (encoding : Encoding P) (meaning : R → Source) (solver : Solver F R) (allowance : ℕ) where
  opens_unless : (why : Option SealRefusal) → sealing (meaning solver.source) allowance ≡ why → OpensLog encoding meaning (sealed_unless why solver allowance)
  opens_unless None e = opens e
  opens_unless (Some refusal) e = tt

  pub opens_log : (result : Result (Sealed F R) (SealRefused F R)) → result ≡ seal_result meaning solver allowance → OpensLog encoding meaning result
  opens_log result e = rw e (opens_unless (sealing (meaning solver.source) allowance) refl)

module _ {F R : Type 0} (meaning : R → Source) (solver : Solver F R) (allowance : ℕ) where
  sealed_is : (why : Option SealRefusal) (sealed : Sealed F R) → Ok sealed ≡ sealed_unless why solver allowance → sealed ≡ just_sealed solver allowance
  sealed_is None sealed e = cc
  sealed_is (Some refusal) sealed e = cc

  -- a sealed solver has the source and the allowance that it was sealed with
  just_sealed_is : (sealed : Sealed F R) → Ok sealed ≡ seal_result meaning solver allowance → sealed ≡ just_sealed solver allowance
  just_sealed_is sealed e = sealed_is (sealing (meaning solver.source) allowance) sealed e

module _ {F R P : Type 0} (encoding : Encoding P) (meaning : R → Source) where
  -- no request
  pub logs_none : (solver : Sealed F R) (entries : List (Entry P)) → entries ≡ [] → Logs encoding meaning solver entries solver
  logs_none solver entries e = record { same_source = refl; same_allowance = refl; goes_on = λ log h. rw (e, append-nil log) h }

  -- the entries of two stretches
  pub logs_join : (s t u : Sealed F R) (first second : List (Entry P)) → Logs encoding meaning s first t → Logs encoding meaning t second u → Logs encoding meaning s (first ++ second) u
  logs_join s t u first second a b = record {
    same_source = b.same_source ∙ a.same_source;
    same_allowance = b.same_allowance ∙ a.same_allowance;
    goes_on = λ log h. rw (← append_assoc log first second) (b.goes_on (log ++ first) (a.goes_on log h));
  }

  -- one entry more
  pub logs_more : (s t u : Sealed F R) (entries more : List (Entry P)) (entry : Entry P)
      → more ≡ entries ++ entry ∷ [] → Logs encoding meaning s entries t → Logs encoding meaning t (entry ∷ []) u → Logs encoding meaning s more u
  logs_more s t u entries more entry p a b = rw p (logs_join s t u entries (entry ∷ []) a b)

  -- the log of a solver from its sealing on
  pub whole_log : (solver : Solver F R) (allowance : ℕ) (s t : Sealed F R) (left : ℕ) (log : List (Entry P))
      → Ok s ≡ seal_result meaning solver allowance → CompleteFor encoding meaning [] s → Logs encoding meaning s log t → left ≡ t.steps_left
      → Complete encoding (meaning solver.source) allowance log left
  whole_log solver allowance s t left log sealed h l e =
      let is = just_sealed_is meaning solver allowance s sealed in
      let same : t.source ≡ solver.source = l.same_source ∙ ap (λ (z : Sealed F R). z.source) is in
      let allowed : t.allowance ≡ allowance = l.same_allowance ∙ ap (λ (z : Sealed F R). z.allowance) is in
      rw (e, ← same, ← allowed) (l.goes_on [] h)

pub requests_next : {P : Type 0} (entries more : List (Entry P)) (entry : Entry P) (request : Request P) (i : ℕ) (requests : List (Request P))
    → more ≡ entries ++ entry ∷ [] → entry.request ≡ request → i < length requests → request ≡ get_or requests i request → requests_of entries ≡ take i requests
    → requests_of more ≡ take (i + 1) requests
requests_next entries more entry request i requests p asks h r e =
    ap requests_of p ∙ requests_more entries entry ∙ ap (λ z. z ++ entry.request ∷ []) e ∙ ap (λ z. take i requests ++ z ∷ []) (asks ∙ r) ∙ sym (take_more requests i request h)

-- breaking the seal gives back the solver that was sealed
pub broken_same : {F R : Type 0} (meaning : R → Source) (solver back : Solver F R) (allowance : ℕ) (s t : Sealed F R)
    → Ok s ≡ seal_result meaning solver allowance → t.source ≡ s.source → back ≡ broken t → back ≡ solver
broken_same {F} {R} meaning solver back allowance s t sealed same e =
    let is = just_sealed_is meaning solver allowance s sealed in
    e ∙ ap (λ (z : R). record { form = solver.form; source = z }) (same ∙ ap (λ (z : Sealed F R). z.source) is)
