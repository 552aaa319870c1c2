-- The binary interchange formats: from the top a sign bit, an exponent field of w bits and a fraction field of t bits.
use Rattle.std.specs.Prelude.{◌≡◌, ℕ, ◌+◌, ◌-◌, ◌*◌, ◌/◌, ◌%◌, ◌^◌, ◌<◌, ◌≤◌, Bool, cond, ℤ, negsuc, ◌==◌, nat_le, nat_lt}
use Rattle.exact.specs.declared.form.Form.{Form}
use Rattle.forms.specs.declared.reading.Reading.{Reading}
use Rattle.forms.specs.declared.reading.Reading.TheVariants.{Finite, Infinite, QuietNan, SignallingNan}
use Rattle.forms.specs.Encoding.{Encoding}

-- What the fields mean, where the exponent field of ones and the implicit leading bit of the format are told. A field of
-- zeros has no implicit bit, and the same exponent as the field 1. A field of ones is no finite number: infinite where
-- the fraction is zero, else a NaN, quiet where the top fraction bit is set.
abbrev pub read_fields : ℕ → ℕ → Bool → ℕ → ℕ → Reading
read_fields ones implicit_bit negative exponent fraction =
    cond (exponent == 0) (Finite negative fraction 0)
    (cond (exponent == ones)
    (cond (fraction == 0) (Infinite negative) (cond (nat_lt fraction (implicit_bit / 2)) SignallingNan QuietNan))
    (Finite negative (implicit_bit + fraction) (exponent - 1)))

abbrev pub read_binary : ℕ → ℕ → ℕ → Reading
read_binary w t pattern = read_fields (2 ^ w - 1) (2 ^ t) (nat_le (2 ^ (w + t)) pattern) (pattern / 2 ^ t % 2 ^ w) (pattern % 2 ^ t)

-- the constants of a format that code goes by: precision, an exponent field of ones and implicit bit
pub record FieldsAre (w t precision ones implicit_bit : ℕ) : Type 0 where
  pub precision_is : precision ≡ t + 1
  pub ones_are : ones ≡ 2 ^ w - 1
  pub implicit_bit_is : implicit_bit ≡ 2 ^ t
  -- an exponent field of ones is above those of the least and the largest exponent
  pub some_exponents : 2 ≤ ones
  -- the sign bit is the first above the other two fields, and lies in a word
  pub sign_bit_above : 2 ^ (w + t) ≡ (ones + 1) * implicit_bit
  pub sign_bit_within : 2 ^ (w + t) < 2 ^ 64
  -- the quiet NaN has the top bit of the fraction field
  pub quiet_nan_is : (2 ^ (w + 1) - 1) * 2 ^ (t - 1) ≡ ones * implicit_bit + implicit_bit / 2

-- precision, exponents and largest significand
abbrev pub binary_form : ℕ → ℕ → ℤ → Form
binary_form w t least = record { precision = t + 1; least = least; span = 2 ^ w - 3; largest = 2 ^ (t + 1) - 1 }

-- The format with patterns of type P, each of which is a word and has one. A pattern is written as a sum: the implicit bit
-- of k, where it has one, carries into the exponent field and makes it e + 1.
abbrev pub binary : {P : Type 0} → ℕ → ℕ → ℤ → (P → ℕ) → (ℕ → P) → Encoding P
binary w t least word pattern = record {
  form = binary_form w t least;
  reading = λ p. read_binary w t (word p);
  written = λ k e. pattern (e * 2 ^ t + k);
  quiet_nan = pattern ((2 ^ (w + 1) - 1) * 2 ^ (t - 1));
  plus_infinity = pattern ((2 ^ w - 1) * 2 ^ t);
}

-- least exponent -1074: precision 53, exponents to 971, largest significand 2 ^ 53 - 1
abbrev pub binary64 : Encoding ℕ
binary64 = binary 11 52 (negsuc 1073) (λ pattern. pattern) (λ word. word)

-- least exponent -149: precision 24, exponents to 104, largest significand 2 ^ 24 - 1
abbrev pub binary32 : Encoding ℕ
binary32 = binary 8 23 (negsuc 148) (λ pattern. pattern) (λ word. word)
