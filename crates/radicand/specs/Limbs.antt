-- Numbers in limbs of 56 bits.
use Rattle.std.specs.Prelude.{ℕ, ◌+◌, ◌-◌, ◌*◌, ◌^◌, ◌<◌}
use Rattle.radicand.specs.declared.wide.Wide.{Wide}
use Rattle.radicand.specs.declared.wide.Truncated.{Truncated}
use Rattle.radicand.specs.Truncation.{Truncates}

abbrev pub three : ℕ → ℕ → ℕ → ℕ
three high low part = (high * 2 ^ 56 + low) * 2 ^ 56 + part

-- how many units of 2 ^ -56 the number is
abbrev pub units : Wide → ℕ
units w = three w.high w.low w.part

-- the number is x / 4 ^ d, cut to units
unfoldable pub Counts : Truncated → ℕ → ℕ → Type 0
Counts t x d = Truncates (units t.wide) t.cut (x * 2 ^ 56) (4 ^ d)

-- the words hold the number in the scale of a head of so many places
unfoldable pub Held : Truncated → ℕ → Type 0
Held t places = units t.wide < 2 ^ 130 * 2 ^ (114 - 2 * places)
