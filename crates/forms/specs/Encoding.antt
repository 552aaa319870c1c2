-- How the patterns of type P encode the values of a number form, and what every form keeps to.
use Rattle.std.specs.Prelude.{◌≡◌, ℕ, Bool, false}
use Rattle.exact.specs.declared.form.Form.{Form}
use Rattle.exact.specs.Value.{Value, InRange}
use Rattle.forms.specs.declared.reading.Reading.{Reading}
use Rattle.forms.specs.declared.reading.Reading.TheVariants.{Finite, Infinite, QuietNan}

pub record Encoding (P : Type 0) : Type 0 where
  -- precision, exponents and largest significand
  pub form : Form
  -- what a pattern means
  pub reading : P → Reading
  -- the pattern of the value k * 2 ^ e, with plus sign
  pub written : ℕ → ℕ → P
  -- the patterns that answer for no number and for what is beyond the largest value
  pub quiet_nan : P
  pub plus_infinity : P

pub record Lawful {P : Type 0} (encoding : Encoding P) : Type 0 where
  pub in_range : InRange encoding.form
  -- a finite pattern means a value of the form
  pub reads_values : (pattern : P) (negative : Bool) (k e : ℕ) → encoding.reading pattern ≡ Finite negative k e → Value encoding.form k e
  -- each value has a pattern with plus sign, the one that is written
  pub reads_back : (k e : ℕ) → Value encoding.form k e → encoding.reading (encoding.written k e) ≡ Finite false k e
  -- and no other
  pub one_pattern : (pattern : P) (k e : ℕ) → encoding.reading pattern ≡ Finite false k e → pattern ≡ encoding.written k e
  pub nan_is_quiet : encoding.reading encoding.quiet_nan ≡ QuietNan
  pub infinity_is_plus : encoding.reading encoding.plus_infinity ≡ Infinite false
