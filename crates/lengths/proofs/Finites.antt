-- The values of a form within the limits that sides have: at most 53 bits, and an exponent of at most 4,000.
use Rattle.std.proofs.Common.{ℕ, ◌^◌, ◌<◌, ◌≤◌, pos, negsuc, ◌+ℤ◌, ◌≤ℤ◌, lt_of_lt_of_le, arith, pow_pos}
use Rattle.std.proofs.lemmas.Int.{ints}
use Rattle.exact.specs.declared.form.Form.{Form}
use Rattle.exact.specs.Value.{Value, InRange}
use Rattle.exact.proofs.Squares.{two_le}

module _ (form : Form) (ok : InRange form) where
  pub zero_value : Value form 0 0
  zero_value = record { within = omega arith; short = pow_pos form.precision; capped = λ _. omega arith; full = λ h. absurd (omega arith) }

  span_most : form.span ≤ 4000
  span_most = let a : negsuc 1999 ≤ℤ form.least = ok.exponent_least in let b : (form.least +ℤ pos form.span) ≤ℤ pos 2000 = ok.exponent_most in omega (arith, ints)

  pub value_short : (k e : ℕ) → Value form k e → k < 2 ^ 53
  value_short k e v = lt_of_lt_of_le v.short (two_le form.precision 53 ok.precision_most)

  pub value_low : (k e : ℕ) → Value form k e → e ≤ 4000
  value_low k e v = omega (arith, v.within, span_most)
