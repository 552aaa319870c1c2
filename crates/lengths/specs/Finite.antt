-- Readings of a form's patterns.
use Rattle.std.specs.Prelude.{◌≡◌, ℕ, Bool}
use Rattle.exact.specs.declared.form.Form.{Form}
use Rattle.exact.specs.Value.{Value}
use Rattle.forms.specs.declared.reading.Reading.{Reading}
use Rattle.forms.specs.declared.reading.Reading.TheVariants.{Finite}
use Rattle.forms.specs.Encoding.{Encoding}
use Rattle.sides.specs.declared.side.Side.{Side}

-- a finite reading is a value of the form
abbrev pub OfForm : Form → Reading → Type 0
OfForm form reading = (negative : Bool) (k e : ℕ) → reading ≡ Finite negative k e → Value form k e

-- the magnitude of a side is a value of the form
abbrev pub SideValue : Form → Side → Type 0
SideValue form side = Value form side.magnitude.significand side.magnitude.exponent

-- the pattern of a side's magnitude
abbrev pub side_pattern : {P : Type 0} → Encoding P → Side → P
side_pattern encoding side = encoding.written side.magnitude.significand side.magnitude.exponent
