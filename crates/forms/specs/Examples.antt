-- Worked readings: patterns of known numbers, with the exponents counted from the least one, and the ends of each form.
use Rattle.std.specs.Prelude.{◌≡◌, ℕ, ◌-◌, ◌^◌, true, false, ℤ, pos, negsuc, ◌+ℤ◌}
use Rattle.forms.specs.declared.reading.Reading.TheVariants.{Finite, Infinite, QuietNan, SignallingNan}
use Rattle.forms.specs.Encoding.{Encoding}
use Rattle.forms.specs.Binary.{binary64, binary32}
use Rattle.forms.specs.Thousandths.{thousandths}

-- the exponent e of a form, counted from zero
abbrev pub exponent_of : {P : Type 0} → Encoding P → ℕ → ℤ
exponent_of encoding e = encoding.form.least +ℤ pos e

pub record WorkedReadings : Type 0 where
  -- binary64: 1 is 2 ^ 52 * 2 ^ -52, and -2 is -(2 ^ 52 * 2 ^ -51)
  pub one64 : binary64.reading 0x3ff0_0000_0000_0000 ≡ Finite false (2 ^ 52) 1022
  pub one64_exponent : exponent_of binary64 1022 ≡ negsuc 51
  pub minus_two64 : binary64.reading 0xc000_0000_0000_0000 ≡ Finite true (2 ^ 52) 1023
  -- the least and the largest exponent, and the largest value
  pub least64 : binary64.form.least ≡ negsuc 1073
  pub top64 : exponent_of binary64 binary64.form.span ≡ pos 971
  pub largest64 : binary64.reading 0x7fef_ffff_ffff_ffff ≡ Finite false (2 ^ 53 - 1) binary64.form.span
  -- the first signalling NaN, the last one, and the first quiet NaN
  pub signalling64 : binary64.reading 0x7ff0_0000_0000_0001 ≡ SignallingNan
  pub last_signalling64 : binary64.reading 0x7ff7_ffff_ffff_ffff ≡ SignallingNan
  pub quiet64 : binary64.reading 0x7ff8_0000_0000_0000 ≡ QuietNan
  -- binary32: 1 is 2 ^ 23 * 2 ^ -23
  pub one32 : binary32.reading 0x3f80_0000 ≡ Finite false (2 ^ 23) 126
  pub one32_exponent : exponent_of binary32 126 ≡ negsuc 22
  pub least32 : binary32.form.least ≡ negsuc 148
  pub top32 : exponent_of binary32 binary32.form.span ≡ pos 104
  pub last_signalling32 : binary32.reading 0x7fbf_ffff ≡ SignallingNan
  pub quiet32 : binary32.reading 0x7fc0_0000 ≡ QuietNan
  -- thousandths: whole numbers, the least and the largest, and the three patterns set apart
  pub unit : thousandths.form.least ≡ pos 0
  pub one_exponent : exponent_of thousandths thousandths.form.span ≡ pos 0
  pub minus_one : thousandths.reading 0xffff_ffff ≡ Finite true 1 0
  pub lowest : thousandths.reading 0x8000_0002 ≡ Finite true 2147483646 0
  pub highest : thousandths.reading 0x7fff_fffe ≡ Finite false 2147483646 0
  pub over_range : thousandths.reading 0x7fff_ffff ≡ Infinite false
  pub under_range : thousandths.reading 0x8000_0001 ≡ Infinite true
  pub no_reading : thousandths.reading 0x8000_0000 ≡ QuietNan
