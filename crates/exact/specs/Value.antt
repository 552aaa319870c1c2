-- The values of a number form. Exponents are counted from the form's least one, so all numbers here are natural.
use Rattle.std.specs.Prelude.{◌≡◌, ℕ, ◌-◌, ◌*◌, ◌^◌, ◌<◌, ◌≤◌, pos, negsuc, ◌+ℤ◌, ◌≤ℤ◌}
use Rattle.exact.specs.declared.form.Form.{Form}

-- k * 2 ^ e in units of the least exponent
abbrev pub units : ℕ → ℕ → ℕ
units k e = k * 2 ^ e

-- k * 2 ^ e is a value of the form
pub record Value (form : Form) (k e : ℕ) : Type 0 where
  -- the exponent is at most the largest one
  pub within : e ≤ form.span
  -- the significand has at most p bits
  pub short : k < 2 ^ form.precision
  -- at the largest exponent it is at most the largest significand
  pub capped : e ≡ form.span → k ≤ form.largest
  -- above the least exponent it has all p bits
  pub full : 0 < e → 2 ^ (form.precision - 1) ≤ k

-- the largest value of a form
abbrev pub largest_value : Form → ℕ
largest_value form = units form.largest form.span

-- what the parameters of a form keep to
pub record InRange (form : Form) : Type 0 where
  pub precision_least : 2 ≤ form.precision
  pub precision_most : form.precision ≤ 53
  -- exponents lie between -2,000 and 2,000
  pub exponent_least : negsuc 1999 ≤ℤ form.least
  pub exponent_most : (form.least +ℤ pos form.span) ≤ℤ pos 2000
  -- the largest significand has p bits
  pub largest_least : 2 ^ (form.precision - 1) ≤ form.largest
  pub largest_most : form.largest < 2 ^ form.precision

-- the limits of the parameters, from inside and from outside
pub record Limits : Type 0 where
  pub widest : InRange (record { precision = 53; least = negsuc 1999; span = 4000; largest = 2 ^ 53 - 1 })
  pub narrowest : InRange (record { precision = 2; least = pos 2000; span = 0; largest = 2 })
  pub not_longer : InRange (record { precision = 54; least = pos 0; span = 0; largest = 2 ^ 53 }) → ⊥
  pub not_shorter : InRange (record { precision = 1; least = pos 0; span = 0; largest = 1 }) → ⊥
  pub not_lower : InRange (record { precision = 53; least = negsuc 2000; span = 0; largest = 2 ^ 53 - 1 }) → ⊥
  pub not_higher : InRange (record { precision = 53; least = pos 0; span = 2001; largest = 2 ^ 53 - 1 }) → ⊥
  pub not_larger : InRange (record { precision = 53; least = pos 0; span = 0; largest = 2 ^ 53 }) → ⊥
  pub not_smaller : InRange (record { precision = 53; least = pos 0; span = 0; largest = 2 ^ 52 - 1 }) → ⊥
