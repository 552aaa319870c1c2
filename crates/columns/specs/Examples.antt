-- Worked columns: the lengths that their calls have.
use Rattle.std.specs.Prelude.{◌≡◌}
use Rattle.forms.specs.Binary.{binary64}
use Rattle.sources.specs.Source.{exact_source}
use Rattle.lengths.specs.LengthOf.{length_of}
use Rattle.columns.specs.declared.column.Operation.TheVariants.{Hypot as HypotColumn, Cathetus as CathetusColumn}
use Rattle.columns.specs.Column.{call_of}

pub record WorkedColumns : Type 0 where
  -- 3 and 4 give 5
  pub hypot : (length_of binary64 exact_source (call_of HypotColumn 0x4008_0000_0000_0000 0x4010_0000_0000_0000)).pattern ≡ 0x4014_0000_0000_0000
  -- a hypotenuse of 5 and a leg of 4 give 3, and the other way round there is none
  pub cathetus : (length_of binary64 exact_source (call_of CathetusColumn 0x4014_0000_0000_0000 0x4010_0000_0000_0000)).pattern ≡ 0x4008_0000_0000_0000
  pub no_leg : (length_of binary64 exact_source (call_of CathetusColumn 0x4010_0000_0000_0000 0x4014_0000_0000_0000)).pattern ≡ 0x7ff8_0000_0000_0000
