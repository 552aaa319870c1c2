-- A column's calls in the log, one by one, read off its sides, what it wrote and what it returned.
use Rattle.std.specs.Prelude.{ℕ, List, [], ◌∷◌, ◌++◌, take, drop, Ok, Err, Result}
use Rattle.solver.specs.declared.refusal.CallRefusal.{CallRefusal}
use Rattle.solver.specs.declared.log.Entry.{Entry}
use Rattle.solver.specs.Log.{told_call}
use Rattle.columns.specs.declared.column.Operation.{Operation}
use Rattle.columns.specs.declared.refusal.ColumnRefusal.{ColumnRefusal}
use Rattle.columns.specs.declared.refusal.ColumnRefusal.TheVariants.{DifferentLengths, TooManyEntries, AtEntry}
use Rattle.columns.specs.Column.{call_of}

-- served calls with these lengths and counts
abbrev pub served_entries : {P : Type 0} → Operation → List P → List P → List P → List ℕ → List (Entry P)
served_entries operation [] ys ls cs = []
served_entries operation (x ∷ xs) [] ls cs = []
served_entries operation (x ∷ xs) (y ∷ ys) [] cs = []
served_entries operation (x ∷ xs) (y ∷ ys) (l ∷ ls) [] = []
served_entries operation (x ∷ xs) (y ∷ ys) (l ∷ ls) (c ∷ cs) =
    told_call (call_of operation x y) (Ok (record { pattern = l; count = c })) ++ served_entries operation xs ys ls cs

-- the call of the first entry, refused
abbrev pub first_refused : {P : Type 0} → Operation → List P → List P → CallRefusal → List (Entry P)
first_refused operation [] ys refusal = []
first_refused operation (x ∷ xs) [] refusal = []
first_refused operation (x ∷ xs) (y ∷ ys) refusal = told_call (call_of operation x y) (Err refusal)

-- the calls that a column made: every entry's, or those before a refused entry and that one, or none
abbrev pub told_column : {P : Type 0} → Operation → List P → List P → List P → List ℕ → Result (Unit {0}) ColumnRefusal → List (Entry P)
told_column operation xs ys ls cs (Ok done) = served_entries operation xs ys ls cs
told_column operation xs ys ls cs (Err DifferentLengths) = []
told_column operation xs ys ls cs (Err (TooManyEntries entries)) = []
told_column operation xs ys ls cs (Err (AtEntry refused)) =
    take refused.place (served_entries operation xs ys ls cs)
    ++ first_refused operation (drop refused.place xs) (drop refused.place ys) refused.refusal
