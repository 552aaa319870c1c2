-- Nearness to a root, and what is proved of the length.
use Rattle.std.specs.Prelude.{◌≡◌, ℕ, ◌+◌, ◌*◌, ◌%◌, ◌^◌, ◌<◌, ◌≤◌, ◌≢◌}
use Rattle.exact.specs.declared.form.Form.{Form}
use Rattle.exact.specs.Value.{Value, InRange, units, largest_value}
use Rattle.exact.specs.Length.{Length, length_significand, length_exponent}

-- v is at least as far from the root of n as l is: the root lies on l's side of the middle of l and v
pub record AtLeastAsFar (n l v : ℕ) : Type 0 where
  pub above : l < v → 4 * n ≤ (l + v) * (l + v)
  pub below : v < l → (l + v) * (l + v) ≤ 4 * n

-- k * 2 ^ e is the value of the form that is nearest to the root of n: every value is at least as far from it,
-- and where another is equally far, the root being in the middle, k is even
pub record Nearest (form : Form) (n k e : ℕ) : Type 0 where
  pub value : Value form k e
  pub nearest : (j f : ℕ) → Value form j f → AtLeastAsFar n (units k e) (units j f)
  pub even : (j f : ℕ) → Value form j f → (units k e ≢ units j f)
      → (units k e + units j f) * (units k e + units j f) ≡ 4 * n → k % 2 ≡ 0

-- every radicand has a length, the computed one
abbrev pub LengthExists : Type 0
LengthExists = (p n : ℕ) → 1 ≤ p → Length p n (length_significand p n) (length_exponent p n)

-- and no other
abbrev pub LengthIsUnique : Type 0
LengthIsUnique = (p n k e : ℕ) → Length p n k e → (k ≡ length_significand p n) × (e ≡ length_exponent p n)

-- where the root is at most the largest value, the length is the nearest value
abbrev pub LengthIsNearest : Type 0
LengthIsNearest = (form : Form) → InRange form → (n k e : ℕ) → Length form.precision n k e
    → n ≤ largest_value form * largest_value form → Nearest form n k e

-- no radicand has two nearest values, so to be nearest determines the length
abbrev pub NearestIsUnique : Type 0
NearestIsUnique = (form : Form) → InRange form → (n k e j f : ℕ) → Nearest form n k e → Nearest form n j f → (k ≡ j) × (e ≡ f)

-- a length that is at most the largest value is a value, also where the root itself is larger
abbrev pub LengthIsValue : Type 0
LengthIsValue = (form : Form) → InRange form → (n k e : ℕ) → Length form.precision n k e
    → units k e ≤ largest_value form → Value form k e

-- a value is the length of its own square's root
abbrev pub ValueIsLength : Type 0
ValueIsLength = (form : Form) → InRange form → (k e : ℕ) → Value form k e → Length form.precision (units k e * units k e) k e

-- four times the square of the middle between the largest value and the next number in its last place
abbrev pub top_middle : Form → ℕ
top_middle form = (2 * form.largest + 1) * (2 * form.largest + 1) * 4 ^ form.span

-- what the length of a root above the largest value is: the largest value where the root lies below that middle, or on it
-- and the largest significand is even; else it lies beyond
pub record RoundsAtTop (form : Form) (n k e : ℕ) : Type 0 where
  pub below : 4 * n < top_middle form → units k e ≡ largest_value form
  pub on_even : 4 * n ≡ top_middle form → form.largest % 2 ≡ 0 → units k e ≡ largest_value form
  pub on_odd : 4 * n ≡ top_middle form → form.largest % 2 ≡ 1 → largest_value form < units k e
  pub above : top_middle form < 4 * n → largest_value form < units k e

abbrev pub LengthAtTop : Type 0
LengthAtTop = (form : Form) → InRange form → (n k e : ℕ) → Length form.precision n k e
    → largest_value form * largest_value form < n → RoundsAtTop form n k e
