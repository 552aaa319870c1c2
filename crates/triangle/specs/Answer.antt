-- The pattern that answers for an outcome, in any number form: as a function, and as a relation that says what is right of it.
use Rattle.std.specs.Prelude.{◌≡◌, ℕ, ◌*◌, ◌<◌, ◌≤◌, Bool, false, cond, List, [], ◌∷◌, map, Some, None, Option, nat_le}
use Rattle.exact.specs.Value.{units, largest_value}
use Rattle.exact.specs.Length.{Length, length_significand, length_exponent}
use Rattle.exact.specs.Nearest.{Nearest}
use Rattle.forms.specs.declared.reading.Reading.TheVariants.{Finite, Infinite, QuietNan}
use Rattle.forms.specs.Encoding.{Encoding}
use Rattle.triangle.specs.Outcome.{Outcome, not_a_number, infinite, root_of, hypot_outcome}

-- the pattern of k * 2 ^ e, or plus infinity where that is above the largest value
abbrev pub written_or_infinity : {P : Type 0} → Encoding P → ℕ → ℕ → P
written_or_infinity encoding k e = cond (nat_le (units k e) (largest_value encoding.form)) (encoding.written k e) encoding.plus_infinity

-- the pattern that answers for the root of n
unfoldable pub root_pattern : {P : Type 0} → Encoding P → ℕ → P
root_pattern encoding n = written_or_infinity encoding (length_significand encoding.form.precision n) (length_exponent encoding.form.precision n)

-- the pattern that answers for an outcome
abbrev pub answer : {P : Type 0} → Encoding P → Outcome → P
answer encoding not_a_number = encoding.quiet_nan
answer encoding infinite = encoding.plus_infinity
answer encoding (root_of n) = root_pattern encoding n

-- the pattern that answers where nothing has to be rounded
abbrev pub special_pattern : {P : Type 0} → Encoding P → Outcome → Option P
special_pattern encoding not_a_number = Some encoding.quiet_nan
special_pattern encoding infinite = Some encoding.plus_infinity
special_pattern encoding (root_of n) = None

-- what the sides with these patterns come to
abbrev pub hypot_of : {P : Type 0} → Encoding P → List P → Outcome
hypot_of encoding patterns = hypot_outcome (map encoding.reading patterns)

-- the pattern that answers for the hypotenuse over the sides with these patterns
abbrev pub hypot_pattern : {P : Type 0} → Encoding P → List P → P
hypot_pattern encoding patterns = answer encoding (hypot_of encoding patterns)

-- the pattern answers for the root of n
pub record AnswersRoot {P : Type 0} (encoding : Encoding P) (n : ℕ) (pattern : P) : Type 0 where
  -- a root that is at most the largest value is answered by the value nearest to it, with plus sign
  pub within : n ≤ largest_value encoding.form * largest_value encoding.form
      → (k : ℕ) × (e : ℕ) × (encoding.reading pattern ≡ Finite false k e) × Nearest encoding.form n k e
  -- also beyond, a length that is a value is answered by that value
  pub finite : (k e : ℕ) → Length encoding.form.precision n k e → units k e ≤ largest_value encoding.form → encoding.reading pattern ≡ Finite false k e
  -- and a length above the largest value by plus infinity
  pub beyond : (k e : ℕ) → Length encoding.form.precision n k e → largest_value encoding.form < units k e → pattern ≡ encoding.plus_infinity

-- the pattern answers for the outcome
abbrev pub Answers : {P : Type 0} → Encoding P → Outcome → P → Type 0
Answers encoding not_a_number pattern = pattern ≡ encoding.quiet_nan
Answers encoding infinite pattern = pattern ≡ encoding.plus_infinity
Answers encoding (root_of n) pattern = AnswersRoot encoding n pattern

-- in every lawful form one pattern, and only one, answers for an outcome
pub record OneAnswer {P : Type 0} (encoding : Encoding P) : Type 0 where
  pub answers : (outcome : Outcome) → Answers encoding outcome (answer encoding outcome)
  pub only : (outcome : Outcome) (pattern : P) → Answers encoding outcome pattern → pattern ≡ answer encoding outcome
  -- what answers for no number reads as a quiet NaN, and what answers beyond the form as plus infinity
  pub nan_reads : encoding.reading (answer encoding not_a_number) ≡ QuietNan
  pub infinity_reads : encoding.reading (answer encoding infinite) ≡ Infinite false
  -- a single finite side is its own length: its magnitude, with plus sign
  pub alone : (pattern : P) (negative : Bool) (k e : ℕ) → encoding.reading pattern ≡ Finite negative k e
      → encoding.reading (hypot_pattern encoding (pattern ∷ [])) ≡ Finite false k e
