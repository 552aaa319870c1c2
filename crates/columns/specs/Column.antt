-- What a column call writes, returns and leaves.
use Rattle.std.specs.Prelude.{ℕ, ◌+◌, Bool, cond, ◌&&◌, List, [], ◌∷◌, length, Ok, Err, Result, ◌==◌, nat_lt}
use Rattle.forms.specs.Encoding.{Encoding}
use Rattle.sources.specs.Source.{Source}
use Rattle.lengths.specs.declared.call.Call.{Call}
use Rattle.lengths.specs.declared.call.Call.TheVariants.{Hypot, Cathetus}
use Rattle.lengths.specs.declared.call.Measured.{Measured}
use Rattle.solver.specs.declared.refusal.CallRefusal.{CallRefusal}
use Rattle.solver.specs.declared.states.Sealed.{Sealed}
use Rattle.solver.specs.Serving.{call_result, after_call}
use Rattle.columns.specs.declared.column.Operation.{Operation}
use Rattle.columns.specs.declared.column.Operation.TheVariants.{Hypot as HypotColumn, Cathetus as CathetusColumn}
use Rattle.columns.specs.declared.refusal.EntryRefused.{EntryRefused}
use Rattle.columns.specs.declared.refusal.ColumnRefusal.{ColumnRefusal}
use Rattle.columns.specs.declared.refusal.ColumnRefusal.TheVariants.{DifferentLengths, TooManyEntries, AtEntry}

-- the call of an entry's two sides
abbrev pub call_of : {P : Type 0} → Operation → P → P → Call P
call_of HypotColumn x y = Hypot x y
call_of CathetusColumn x y = Cathetus x y

-- what the call at this place returned, its refusal with the place
abbrev pub at_place : {P : Type 0} → ℕ → Result (Measured P) CallRefusal → Result (Measured P) EntryRefused
at_place place (Ok measured) = Ok measured
at_place place (Err refusal) = Err (record { place = place; refusal = refusal })

-- the answer columns, the solver and the result
pub record LeftBy (F R P : Type 0) : Type 0 where
  pub lengths : List P
  pub counts : List ℕ
  pub solver : Sealed F R
  pub result : Result (Unit {0}) ColumnRefusal

abbrev pub left_by : {F R P : Type 0} → List P → List ℕ → Sealed F R → Result (Unit {0}) ColumnRefusal → LeftBy F R P
left_by lengths counts solver result = record { lengths = lengths; counts = counts; solver = solver; result = result }

-- an entry: served, it is written above what the later entries leave; refused, it stops the column, and it and the later
-- entries keep their contents
abbrev pub entered : {F R P : Type 0} → ℕ → Result (Measured P) CallRefusal → LeftBy F R P → List P → List ℕ → Sealed F R → LeftBy F R P
entered place (Ok measured) later ls cs solver = left_by (measured.pattern ∷ later.lengths) (measured.count ∷ later.counts) later.solver later.result
entered place (Err refusal) later ls cs solver = left_by ls cs solver (Err (AtEntry (record { place = place; refusal = refusal })))

-- entry by entry from this place on; each entry finds the solver as the one before left it
module _ {F R P : Type 0} (encoding : Encoding P) (meaning : R → Source) (operation : Operation) where
  abbrev pub entries : ℕ → Sealed F R → List P → List P → List P → List ℕ → LeftBy F R P
  entries place solver [] ys ls cs = left_by ls cs solver (Ok tt)
  entries place solver (x ∷ xs) [] ls cs = left_by ls cs solver (Ok tt)
  entries place solver (x ∷ xs) (y ∷ ys) [] cs = left_by [] cs solver (Ok tt)
  entries place solver (x ∷ xs) (y ∷ ys) (l ∷ ls) [] = left_by (l ∷ ls) [] solver (Ok tt)
  entries place solver (x ∷ xs) (y ∷ ys) (l ∷ ls) (c ∷ cs) =
      entered place (call_result encoding meaning solver (call_of operation x y))
      (entries (place + 1) (after_call encoding meaning solver (call_of operation x y)) xs ys ls cs) (l ∷ ls) (c ∷ cs) solver

abbrev pub same_lengths : {P : Type 0} → List P → List P → List P → List ℕ → Bool
same_lengths xs ys ls cs = length ys == length xs && (length ls == length xs && length cs == length xs)

-- why a column makes no call, if it does not: first the lengths of the columns are looked at, then the number of entries
abbrev pub checked_shape : {P : Type 0} → List P → List P → List P → List ℕ → Result (Unit {0}) ColumnRefusal
checked_shape xs ys ls cs =
    cond (same_lengths xs ys ls cs)
    (cond (nat_lt 4096 (length xs)) (Err (TooManyEntries (length xs))) (Ok tt))
    (Err DifferentLengths)

abbrev pub unless_refused : {F R P : Type 0} → Result (Unit {0}) ColumnRefusal → List P → List ℕ → Sealed F R → LeftBy F R P → LeftBy F R P
unless_refused (Ok checked) ls cs solver made = made
unless_refused (Err refusal) ls cs solver made = left_by ls cs solver (Err refusal)

-- a column call
abbrev pub column_of : {F R P : Type 0} → Encoding P → (R → Source) → Operation → Sealed F R → List P → List P → List P → List ℕ → LeftBy F R P
column_of encoding meaning operation solver xs ys ls cs = unless_refused (checked_shape xs ys ls cs) ls cs solver (entries encoding meaning operation 0 solver xs ys ls cs)
