-- Worked examples of the definitions, by patterns: what a call over the digit source answers, and with what count.
use Rattle.std.specs.Prelude.{◌≡◌, ℕ}
use Rattle.forms.specs.Encoding.{Encoding}
use Rattle.forms.specs.Binary.{binary64, binary32}
use Rattle.forms.specs.Thousandths.{thousandths}
use Rattle.sources.specs.Source.{exact_source}
use Rattle.sources.specs.Examples.{WorkedProposals}
use Rattle.lengths.specs.declared.call.Call.{Call}
use Rattle.lengths.specs.declared.call.Call.TheVariants.{Hypot, Cathetus, ThreeSides}
use Rattle.lengths.specs.LengthOf.{length_of}

-- the call gives the pattern, with so many steps from the digit source's proposal
abbrev pub Gives : Encoding ℕ → Call ℕ → ℕ → ℕ → Type 0
Gives encoding call pattern count = length_of encoding exact_source call ≡ record { pattern = pattern; count = count }

pub record WorkedExamples : Type 0 where
  -- binary64: 3 and 4 give 5
  pub three_four : Gives binary64 (Hypot 0x4008_0000_0000_0000 0x4010_0000_0000_0000) 0x4014_0000_0000_0000 0
  -- two smallest subnormals give one
  pub subnormals : Gives binary64 (Hypot 1 1) 1 0
  -- 1 and 1 give the root of two
  pub root_two : Gives binary64 (Hypot 0x3ff0_0000_0000_0000 0x3ff0_0000_0000_0000) 0x3ff6_a09e_667f_3bcd 0
  -- a subnormal and a much smaller one give the smallest normal number, by a carry
  pub to_normal : Gives binary64 (Hypot 0x000f_ffff_ffff_ffff 0x0000_0000_0400_0000) 0x0010_0000_0000_0000 1
  -- a root just above the largest value still rounds to it, and one a little larger is infinite
  pub largest : Gives binary64 (Hypot 0x7fef_ffff_ffff_ffff 0x7e40_0000_0000_0000) 0x7fef_ffff_ffff_ffff 1
  pub overflow : Gives binary64 (Hypot 0x7fef_ffff_ffff_ffff 0x7e48_0000_0000_0000) 0x7ff0_0000_0000_0000 1
  -- 2 ^ 28 and 7
  pub near_first_side : Gives binary64 (Hypot 0x41b0_0000_0000_0000 0x401c_0000_0000_0000) 0x41b0_0000_0000_0002 1
  -- 18,695,267 and 385,609,956 have the whole root 386,062,885
  pub whole_root : Gives binary64 (Hypot 0x4171_d446_3000_0000 0x41b6_fbf0_e400_0000) 0x41b7_02da_2500_0000 2
  -- a root halfway between two values gives the even one
  pub midpoint : Gives binary64 (Hypot 0x4126_74ae_8442_8370 0x4172_4256_e4fa_a000) 0x4172_45ca_4fdd_ebe4 0
  -- what is cut off below the last bit of the radicand takes the root above the half
  pub lost_bit : Gives binary64 (Hypot 0x3ff0_0000_0400_0002 0x3e50_0000_0200_0001) 0x3ff0_0000_0400_0003 1
  -- three sides whose floor root is 2 ^ 54, which no proposal is
  pub longer_floor_root : Gives binary64 (ThreeSides 0x3ff9_d526_965c_b10c 0x3fec_044a_504d_0416 0x3fe9_5543_c04c_5c40) 0x4000_0000_0000_0000 2
  -- a far third side moves the floor root, and so the count
  pub far_third : Gives binary64 (ThreeSides 0x451f_09c3_0981_fa59 0x4516_ac8a_3287_533d 0x436c_6a92_d3b7_750f) 0x4523_380e_66d6_638b 1
  -- an infinity outweighs a quiet NaN, and a signalling NaN outweighs both
  pub infinite : Gives binary64 (Hypot 0x7ff8_0000_0000_0001 0xfff0_0000_0000_0000) 0x7ff0_0000_0000_0000 0
  pub signalling : Gives binary64 (Hypot 0x7ff0_0000_0000_0000 0x7ff0_0000_0000_0001) 0x7ff8_0000_0000_0000 0
  pub signalling_first : Gives binary64 (Hypot 0x7ff0_0000_0000_0001 0x7ff0_0000_0000_0000) 0x7ff8_0000_0000_0000 0
  -- a quiet NaN beside a finite side gives the NaN, without its sign and payload
  pub quiet : Gives binary64 (Hypot 0xfff8_0000_0000_0001 0x3ff0_0000_0000_0000) 0x7ff8_0000_0000_0000 0
  -- signs do not matter
  pub negative : Gives binary64 (Hypot 0xc008_0000_0000_0000 0x4010_0000_0000_0000) 0x4014_0000_0000_0000 0
  -- both zeros give plus zero
  pub zeros : Gives binary64 (Hypot 0x8000_0000_0000_0000 0) 0 0
  -- a hypotenuse of 5 and a leg of 4 give 3; of 5 and 5 plus zero; of 4 and 5 no number
  pub leg : Gives binary64 (Cathetus 0x4014_0000_0000_0000 0x4010_0000_0000_0000) 0x4008_0000_0000_0000 0
  pub no_leg : Gives binary64 (Cathetus 0x4014_0000_0000_0000 0x4014_0000_0000_0000) 0 0
  pub leg_too_long : Gives binary64 (Cathetus 0x4010_0000_0000_0000 0x4014_0000_0000_0000) 0x7ff8_0000_0000_0000 0
  -- 1 beside 2 ^ 27 is not far: the length is the same, and the count shows it
  pub leg_not_far : Gives binary64 (Cathetus 0x41a0_0000_0000_0000 0x3ff0_0000_0000_0000) 0x41a0_0000_0000_0000 1
  -- 25 and a leg of 5 * 2 ^ -24
  pub leg_rounded_once : Gives binary64 (Cathetus 0x4039_0000_0000_0000 0x3e94_0000_0000_0000) 0x4038_ffff_ffff_ffff 0
  -- legs just below a power of two: one rounds up to it, by a carry, and one stays below; both have the floor root 2 ^ 53 - 1
  pub leg_below_power : Gives binary64 (Cathetus 0x3ff0_2e1f_c1cd_54e6 0x3fc3_435f_8b33_e968) 0x3ff0_0000_0000_0000 1
  pub leg_stays_below : Gives binary64 (Cathetus 0x3ff0_75aa_d371_74ca 0x3fce_e69a_c7fd_e805) 0x3fef_ffff_ffff_ffff 1
  -- a finite hypotenuse with an infinite leg has no other leg; an infinite one with a finite leg has an infinite one
  pub leg_infinite : Gives binary64 (Cathetus 0x3ff0_0000_0000_0000 0x7ff0_0000_0000_0000) 0x7ff8_0000_0000_0000 0
  pub leg_of_infinity : Gives binary64 (Cathetus 0xfff0_0000_0000_0000 0x3ff0_0000_0000_0000) 0x7ff0_0000_0000_0000 0
  -- a NaN outweighs an infinity here
  pub leg_nan : Gives binary64 (Cathetus 0xfff0_0000_0000_0000 0x7ff8_0000_0000_0000) 0x7ff8_0000_0000_0000 0
  -- a NaN of either kind on either side gives the NaN, and so does an infinite leg, beside an infinite hypotenuse too
  pub leg_signalling : Gives binary64 (Cathetus 0x4014_0000_0000_0000 0x7ff0_0000_0000_0001) 0x7ff8_0000_0000_0000 0
  pub leg_of_signalling : Gives binary64 (Cathetus 0xfff0_0000_0000_0001 0) 0x7ff8_0000_0000_0000 0
  pub leg_of_nan : Gives binary64 (Cathetus 0x7ff8_0000_0000_0000 0) 0x7ff8_0000_0000_0000 0
  pub both_infinite : Gives binary64 (Cathetus 0x7ff0_0000_0000_0000 0x7ff0_0000_0000_0000) 0x7ff8_0000_0000_0000 0
  pub leg_under_range : Gives thousandths (Cathetus 0x8000_0001 0x7fff_ffff) 0x8000_0000 0
  pub under_range_leg : Gives thousandths (Cathetus 0x8000_0001 5) 0x7fff_ffff 0
  -- exactly 2 ^ -27 of the largest is not far, and a little less is
  pub not_yet_far : Gives binary64 (Hypot 0x3ffa_46d6_7433_333c 0x3e4a_46d6_7433_333c) 0x3ffa_46d6_7433_333c 1
  pub just_far : Gives binary64 (Hypot 0x3ffa_46d6_7433_333d 0x3e4a_46d6_7433_333c) 0x3ffa_46d6_7433_333d 0
  -- the squares are added largest first, in whatever order the sides come: added as (x * x + z * z) + y * y they give another count
  pub added_in_order : Gives binary64 (ThreeSides 0x3fde_18cc_1c53_ea1c 0x3ff3_bfd1_d262_2c48 0x3fef_dc52_8ede_5c0e) 0x3ffa_772c_051a_9a42 0
  -- binary32: 52,613,341,184 and 14,680,063 give 52,613,345,280
  pub not_first_side : Gives binary32 (Hypot 0x5143_fffe 0x4b5f_ffff) 0x5143_ffff 0
  -- a hypotenuse of 52,613,357,568 and a leg of 14,680,065 give 52,613,353,472
  pub not_hypotenuse : Gives binary32 (Cathetus 0x5144_0002 0x4b60_0001) 0x5144_0001 1
  -- 13 and a small leg
  pub leg32_rounded_once : Gives binary32 (Cathetus 0x4150_0000 0x3b66_c15a) 0x414f_ffff 1
  -- 10,066,335 and 13,421,780 have the root 16,777,225, halfway between two values, and give the even one, 16,777,224
  pub tie : Gives binary32 (Hypot 0x4b19_999f 0x4b4c_ccd4) 0x4b80_0004 0
  -- the least third side takes the root above the half
  pub above_tie : Gives binary32 (ThreeSides 0x4b19_999f 0x4b4c_ccd4 1) 0x4b80_0005 0
  -- three sides: 3, 4 and 0 give 5
  pub three_sides : Gives binary32 (ThreeSides 0x4040_0000 0x4080_0000 0) 0x40a0_0000 0
  -- 1, 1 and 0 give the root of two
  pub third_zero : Gives binary32 (ThreeSides 0x3f80_0000 0x3f80_0000 0) 0x3fb5_04f3 0
  -- large sides with a small third are finite, and two small sides count together
  pub large_sides : Gives binary32 (ThreeSides 0x7f00_0000 0x7f00_0000 0x3f80_0000) 0x7f35_04f3 0
  pub small_sides : Gives binary32 (ThreeSides 0x4110_0000 0x3b40_0000 0x3501_36f4) 0x4110_0001 0
  -- a small second side moves the root by more than half a unit
  pub small_side : Gives binary32 (Hypot 0x40a0_0000 0x3aca_62c2) 0x40a0_0001 0
  -- an infinity outweighs a quiet NaN in binary32 and among three sides too, and a signalling NaN outweighs it there too
  pub infinity32 : Gives binary32 (Hypot 0x7fc0_0000 0x7f80_0000) 0x7f80_0000 0
  pub three_with_signalling : Gives binary32 (ThreeSides 0x7fc0_0000 0x7f80_0000 0x7f80_0001) 0x7fc0_0000 0
  pub three_with_infinity : Gives binary32 (ThreeSides 0x7fc0_0000 0x3f80_0000 0x7f80_0000) 0x7f80_0000 0
  -- thousandths: 1 and 1 give 1
  pub one_one : Gives thousandths (Hypot 1 1) 1 0
  -- twice 2,147,483,646 gives over range
  pub over_range : Gives thousandths (Hypot 0x7fff_fffe 0x7fff_fffe) 0x7fff_ffff 0
  -- a root less than half a unit above the largest value gives it, and a larger one over range
  pub still_largest : Gives thousandths (Hypot 0x7fff_fffe 0xb504) 0x7fff_fffe 1
  pub just_over : Gives thousandths (Hypot 0x7fff_fffe 0xb505) 0x7fff_ffff 1
  -- the magnitude of a negative reading
  pub lowest_reading : Gives thousandths (Hypot 0x8000_0002 0) 0x7fff_fffe 0
  -- no reading beside a reading, and beside one that is under range
  pub no_reading : Gives thousandths (Hypot 0x8000_0000 5) 0x8000_0000 0
  pub under_range : Gives thousandths (Hypot 0x8000_0000 0x8000_0001) 0x7fff_ffff 0
  -- the proposals of the digit source, of the table source and of refiners
  pub proposals : WorkedProposals
