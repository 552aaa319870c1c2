-- The worked examples, each by computation.
use Rattle.std.proofs.Common.{refl}
use lib.Ieee.{size, round, units, odd, add, sum, sub, neg, mul}
use Rattle.exact.specs.Root.{root_by_digits, isqrt}
use Rattle.exact.specs.Length.{ulp_exponent, rounded_root, length_significand, length_exponent}
use Rattle.floats.specs.Units.{unit, units as float_units}
use Rattle.head.specs.Head.{head_word, head_places}
use Rattle.sources.proofs.Worked.{worked}
use Rattle.triangle.specs.Answer.{root_pattern}
use Rattle.lengths.specs.LengthOf.{floor_root_at, walk_count, length_of}
use Rattle.lengths.specs.Examples.{WorkedExamples}

pub all_come_out : WorkedExamples
unfolding length_of walk_count floor_root_at head_word head_places float_units unit root_pattern length_significand length_exponent rounded_root ulp_exponent isqrt root_by_digits size round units odd add sum sub neg mul
all_come_out = record {
  three_four = refl;
  subnormals = refl;
  root_two = refl;
  to_normal = refl;
  largest = refl;
  overflow = refl;
  near_first_side = refl;
  whole_root = refl;
  midpoint = refl;
  lost_bit = refl;
  longer_floor_root = refl;
  far_third = refl;
  infinite = refl;
  signalling = refl;
  signalling_first = refl;
  quiet = refl;
  negative = refl;
  zeros = refl;
  leg = refl;
  no_leg = refl;
  leg_too_long = refl;
  leg_not_far = refl;
  leg_rounded_once = refl;
  leg_below_power = refl;
  leg_stays_below = refl;
  leg_infinite = refl;
  leg_of_infinity = refl;
  leg_nan = refl;
  leg_signalling = refl;
  leg_of_signalling = refl;
  leg_of_nan = refl;
  both_infinite = refl;
  leg_under_range = refl;
  under_range_leg = refl;
  not_yet_far = refl;
  just_far = refl;
  added_in_order = refl;
  not_first_side = refl;
  not_hypotenuse = refl;
  leg32_rounded_once = refl;
  tie = refl;
  above_tie = refl;
  three_sides = refl;
  third_zero = refl;
  large_sides = refl;
  small_sides = refl;
  small_side = refl;
  infinity32 = refl;
  three_with_signalling = refl;
  three_with_infinity = refl;
  one_one = refl;
  over_range = refl;
  still_largest = refl;
  just_over = refl;
  lowest_reading = refl;
  no_reading = refl;
  under_range = refl;
  proposals = worked;
}
