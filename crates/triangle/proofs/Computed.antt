-- The worked examples, each by computation.
use Rattle.std.proofs.Common.{refl}
use lib.Ieee.{size}
use Rattle.exact.specs.Root.{root_by_digits, isqrt}
use Rattle.exact.specs.Length.{ulp_exponent, rounded_root, length_significand, length_exponent}
use Rattle.triangle.specs.Answer.{root_pattern}
use Rattle.triangle.specs.Examples.{WorkedExamples}

pub all_come_out : WorkedExamples
unfolding root_pattern length_significand length_exponent rounded_root ulp_exponent isqrt root_by_digits size
all_come_out = record {
  three_four = refl;
  subnormals = refl;
  root_two = refl;
  to_normal = refl;
  largest = refl;
  overflow = refl;
  near_first_side = refl;
  whole_root = refl;
  midpoint = refl;
  infinite = refl;
  signalling = refl;
  signalling_first = refl;
  quiet = refl;
  negative = refl;
  zeros = refl;
  not_first_side = refl;
  tie = refl;
  above_tie = refl;
  three_sides = refl;
  third_zero = refl;
  large_sides = refl;
  small_sides = refl;
  small_side = refl;
  infinity32 = refl;
  three_with_signalling = refl;
  three_with_infinity = refl;
  one_one = refl;
  over_range = refl;
  still_largest = refl;
  just_over = refl;
  lowest_reading = refl;
  no_reading = refl;
  under_range = refl;
}
