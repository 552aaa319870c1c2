-- Worked examples of the definitions, by patterns.
use Rattle.std.specs.Prelude.{◌≡◌, [], ◌∷◌}
use Rattle.forms.specs.Binary.{binary64, binary32}
use Rattle.forms.specs.Thousandths.{thousandths}
use Rattle.triangle.specs.Answer.{hypot_pattern}

pub record WorkedExamples : Type 0 where
  -- binary64: 3 and 4 give 5
  pub three_four : hypot_pattern binary64 (0x4008_0000_0000_0000 ∷ 0x4010_0000_0000_0000 ∷ []) ≡ 0x4014_0000_0000_0000
  -- two smallest subnormals give one
  pub subnormals : hypot_pattern binary64 (1 ∷ 1 ∷ []) ≡ 1
  -- 1 and 1 give the root of two
  pub root_two : hypot_pattern binary64 (0x3ff0_0000_0000_0000 ∷ 0x3ff0_0000_0000_0000 ∷ []) ≡ 0x3ff6_a09e_667f_3bcd
  -- a subnormal and a far smaller one give the smallest normal number, by a carry
  pub to_normal : hypot_pattern binary64 (0x000f_ffff_ffff_ffff ∷ 0x0000_0000_0400_0000 ∷ []) ≡ 0x0010_0000_0000_0000
  -- a root just above the largest value still rounds to it, and one a little larger is infinite
  pub largest : hypot_pattern binary64 (0x7fef_ffff_ffff_ffff ∷ 0x7e40_0000_0000_0000 ∷ []) ≡ 0x7fef_ffff_ffff_ffff
  pub overflow : hypot_pattern binary64 (0x7fef_ffff_ffff_ffff ∷ 0x7e48_0000_0000_0000 ∷ []) ≡ 0x7ff0_0000_0000_0000
  -- 2 ^ 28 and 7
  pub near_first_side : hypot_pattern binary64 (0x41b0_0000_0000_0000 ∷ 0x401c_0000_0000_0000 ∷ []) ≡ 0x41b0_0000_0000_0002
  -- 18,695,267 and 385,609,956 have the whole root 386,062,885
  pub whole_root : hypot_pattern binary64 (0x4171_d446_3000_0000 ∷ 0x41b6_fbf0_e400_0000 ∷ []) ≡ 0x41b7_02da_2500_0000
  -- a root halfway between two values gives the even one
  pub midpoint : hypot_pattern binary64 (0x4126_74ae_8442_8370 ∷ 0x4172_4256_e4fa_a000 ∷ []) ≡ 0x4172_45ca_4fdd_ebe4
  -- an infinity outweighs a quiet NaN, and a signalling NaN outweighs both
  pub infinite : hypot_pattern binary64 (0x7ff8_0000_0000_0001 ∷ 0xfff0_0000_0000_0000 ∷ []) ≡ 0x7ff0_0000_0000_0000
  pub signalling : hypot_pattern binary64 (0x7ff0_0000_0000_0000 ∷ 0x7ff0_0000_0000_0001 ∷ []) ≡ 0x7ff8_0000_0000_0000
  pub signalling_first : hypot_pattern binary64 (0x7ff0_0000_0000_0001 ∷ 0x7ff0_0000_0000_0000 ∷ []) ≡ 0x7ff8_0000_0000_0000
  -- a quiet NaN beside a finite side gives the NaN, without its sign and payload
  pub quiet : hypot_pattern binary64 (0xfff8_0000_0000_0001 ∷ 0x3ff0_0000_0000_0000 ∷ []) ≡ 0x7ff8_0000_0000_0000
  -- signs do not matter
  pub negative : hypot_pattern binary64 (0xc008_0000_0000_0000 ∷ 0x4010_0000_0000_0000 ∷ []) ≡ 0x4014_0000_0000_0000
  -- both zeros give plus zero
  pub zeros : hypot_pattern binary64 (0x8000_0000_0000_0000 ∷ 0 ∷ []) ≡ 0
  -- binary32: 52,613,341,184 and 14,680,063 give 52,613,345,280
  pub not_first_side : hypot_pattern binary32 (0x5143_fffe ∷ 0x4b5f_ffff ∷ []) ≡ 0x5143_ffff
  -- 10,066,335 and 13,421,780 have the root 16,777,225, halfway between two values, and give the even one, 16,777,224
  pub tie : hypot_pattern binary32 (0x4b19_999f ∷ 0x4b4c_ccd4 ∷ []) ≡ 0x4b80_0004
  -- the least third side takes the root above the half
  pub above_tie : hypot_pattern binary32 (0x4b19_999f ∷ 0x4b4c_ccd4 ∷ 1 ∷ []) ≡ 0x4b80_0005
  -- three sides: 3, 4 and 0 give 5
  pub three_sides : hypot_pattern binary32 (0x4040_0000 ∷ 0x4080_0000 ∷ 0 ∷ []) ≡ 0x40a0_0000
  -- 1, 1 and 0 give the root of two
  pub third_zero : hypot_pattern binary32 (0x3f80_0000 ∷ 0x3f80_0000 ∷ 0 ∷ []) ≡ 0x3fb5_04f3
  -- large sides with a small third are finite, and two small sides count together
  pub large_sides : hypot_pattern binary32 (0x7f00_0000 ∷ 0x7f00_0000 ∷ 0x3f80_0000 ∷ []) ≡ 0x7f35_04f3
  pub small_sides : hypot_pattern binary32 (0x4110_0000 ∷ 0x3b40_0000 ∷ 0x3501_36f4 ∷ []) ≡ 0x4110_0001
  -- a small second side moves the root by more than half a unit
  pub small_side : hypot_pattern binary32 (0x40a0_0000 ∷ 0x3aca_62c2 ∷ []) ≡ 0x40a0_0001
  -- an infinity outweighs a quiet NaN in binary32 and among three sides too, and a signalling NaN outweighs it there too
  pub infinity32 : hypot_pattern binary32 (0x7fc0_0000 ∷ 0x7f80_0000 ∷ []) ≡ 0x7f80_0000
  pub three_with_signalling : hypot_pattern binary32 (0x7fc0_0000 ∷ 0x7f80_0000 ∷ 0x7f80_0001 ∷ []) ≡ 0x7fc0_0000
  pub three_with_infinity : hypot_pattern binary32 (0x7fc0_0000 ∷ 0x3f80_0000 ∷ 0x7f80_0000 ∷ []) ≡ 0x7f80_0000
  -- thousandths: 1 and 1 give 1
  pub one_one : hypot_pattern thousandths (1 ∷ 1 ∷ []) ≡ 1
  -- twice 2,147,483,646 gives over range
  pub over_range : hypot_pattern thousandths (0x7fff_fffe ∷ 0x7fff_fffe ∷ []) ≡ 0x7fff_ffff
  -- a root less than half a unit above the largest value gives it, and a larger one over range
  pub still_largest : hypot_pattern thousandths (0x7fff_fffe ∷ 0xb504 ∷ []) ≡ 0x7fff_fffe
  pub just_over : hypot_pattern thousandths (0x7fff_fffe ∷ 0xb505 ∷ []) ≡ 0x7fff_ffff
  -- the magnitude of a negative reading
  pub lowest_reading : hypot_pattern thousandths (0x8000_0002 ∷ 0 ∷ []) ≡ 0x7fff_fffe
  -- no reading beside a reading, and beside one that is under range
  pub no_reading : hypot_pattern thousandths (0x8000_0000 ∷ 5 ∷ []) ≡ 0x8000_0000
  pub under_range : hypot_pattern thousandths (0x8000_0000 ∷ 0x8000_0001 ∷ []) ≡ 0x7fff_ffff
