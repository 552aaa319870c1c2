-- Refusals of columns by their numbers, with what they tell.
use Rattle.std.specs.Prelude.{Some, None}
use Rattle.solver.specs.declared.refusal.Numbered.{Numbered}
use Rattle.solver.specs.Refusals.{call_numbered}
use Rattle.columns.specs.declared.refusal.ColumnRefusal.{ColumnRefusal}
use Rattle.columns.specs.declared.refusal.ColumnRefusal.TheVariants.{DifferentLengths, TooManyEntries, AtEntry}

-- at an entry, the solver's refusal with its number and value, and the entry's place
abbrev pub column_numbered : ColumnRefusal → Numbered
column_numbered DifferentLengths = record { number = 5; place = None; value = None }
column_numbered (TooManyEntries entries) = record { number = 6; place = None; value = Some entries }
column_numbered (AtEntry refused) = record {
  number = (call_numbered refused.refusal).number;
  place = Some refused.place;
  value = (call_numbered refused.refusal).value;
}
