use Rattle.std.proofs.Common.{refl}
use lib.Ieee.{size, round, units, odd, add, sum, sub, neg, mul}
use Rattle.exact.specs.Root.{root_by_digits, isqrt}
use Rattle.exact.specs.Length.{ulp_exponent, rounded_root, length_significand, length_exponent}
use Rattle.floats.specs.Units.{unit, units as float_units}
use Rattle.head.specs.Head.{head_word, head_places}
use Rattle.triangle.specs.Answer.{root_pattern}
use Rattle.lengths.specs.LengthOf.{floor_root_at, walk_count, length_of}
use Rattle.columns.proofs.column.worked_columns.Goals as goal

pub returns : goal.returns
unfolding length_of walk_count floor_root_at head_word head_places float_units unit root_pattern length_significand length_exponent rounded_root ulp_exponent isqrt root_by_digits size round units odd add sum sub neg mul
returns c = record { hypot = refl; cathetus = refl; no_leg = refl }
