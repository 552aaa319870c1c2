-- What a request to a sealed solver returns, and how it leaves the solver.
use Rattle.std.specs.Prelude.{ℕ, ◌-◌, Bool, cond, ◌&&◌, Ok, Err, Result, nat_le}
use Rattle.forms.specs.Encoding.{Encoding}
use Rattle.sources.specs.Source.{Source}
use Rattle.lengths.specs.declared.call.Call.{Call}
use Rattle.lengths.specs.declared.call.Measured.{Measured}
use Rattle.lengths.specs.LengthOf.{length_of}
use Rattle.solver.specs.declared.refusal.CallRefusal.{CallRefusal}
use Rattle.solver.specs.declared.refusal.CallRefusal.TheVariants.{TooFewSteps}
use Rattle.solver.specs.declared.states.Sealed.{Sealed}
use Rattle.solver.specs.declared.log.Request.{Request}
use Rattle.solver.specs.declared.log.Request.TheVariants.{Length, NewScan}
use Rattle.solver.specs.Reply.{Reply}
use Rattle.solver.specs.declared.log.Done.TheVariants.{Served, Renewed}
use Rattle.solver.specs.Sealing.{reserve}

-- whether a length call is served with so many steps left; a source of a grade above 7 is never sealed
abbrev pub serves : Source → ℕ → Bool
serves source left = nat_le source.grade 7 && nat_le (reserve source) left

-- the length, or the refusal
abbrev pub served_or_refused : {P : Type 0} → Source → ℕ → Measured P → Result (Measured P) CallRefusal
served_or_refused source left measured = cond (serves source left) (Ok measured) (Err (TooFewSteps left))

-- the steps left: a served call lowers them by its count
abbrev pub left_after : {P : Type 0} → Source → ℕ → Measured P → ℕ
left_after source left measured = cond (serves source left) (left - measured.count) left

-- the solver with so many steps left
abbrev pub with_steps_left : {F R : Type 0} → Sealed F R → ℕ → Sealed F R
with_steps_left solver left = record { form = solver.form; source = solver.source; allowance = solver.allowance; steps_left = left }

-- a length call, by what the form and the sources mean
module _ {F R P : Type 0} (encoding : Encoding P) (meaning : R → Source) (solver : Sealed F R) (call : Call P) where
  abbrev pub call_result : Result (Measured P) CallRefusal
  call_result = served_or_refused (meaning solver.source) solver.steps_left (length_of encoding (meaning solver.source) call)

  abbrev pub after_call : Sealed F R
  after_call = with_steps_left solver (left_after (meaning solver.source) solver.steps_left (length_of encoding (meaning solver.source) call))

-- a new scan has the whole allowance left
abbrev pub after_scan : {F R : Type 0} → Sealed F R → Sealed F R
after_scan solver = with_steps_left solver solver.allowance

-- what a length call returned, as a reply
abbrev pub replied : {P : Type 0} → Result (Measured P) CallRefusal → Reply P
replied (Ok measured) = Ok (Served measured)
replied (Err refusal) = Err refusal

-- any request
module _ {F R P : Type 0} (encoding : Encoding P) (meaning : R → Source) (solver : Sealed F R) where
  abbrev pub reply_to : Request P → Reply P
  reply_to (Length call) = replied (call_result encoding meaning solver call)
  reply_to NewScan = Ok Renewed

  abbrev pub after_request : Request P → Sealed F R
  after_request (Length call) = after_call encoding meaning solver call
  after_request NewScan = after_scan solver
