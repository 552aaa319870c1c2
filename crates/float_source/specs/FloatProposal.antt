-- What the float source proposes for a word: Newton steps in floats, each operation rounded to nearest.
use Rattle.std.specs.Prelude.{◌≡◌, ℕ, suc, ◌+◌, ◌-◌, ◌*◌, ◌/◌, ◌%◌, ◌^◌, min, max, true, false, T, ℤ, pos, negsuc, ◌+ℤ◌, ◌-ℤ◌, from_bits, Float}
use Rattle.std.specs.Float.{fin, binary64}
use Rattle.std.specs.Float.Ieee.{add, mul, div, round, of_int, to_unsigned, lt}
use Rattle.std.specs.Float.Ieee.Scale.{finite}
use Rattle.floats.specs.Units.{unit, units}
use Rattle.sources.specs.Source.{Source}

-- the float nearest to a number of units
abbrev pub nearest_float : ℤ → Float
nearest_float (pos n) = round binary64 false n unit
nearest_float (negsuc n) = round binary64 true (suc n) unit

-- a word in two parts: the float nearest to it, and what that lacks
unfoldable pub held_high : ℕ → Float
held_high w = of_int binary64 (pos w)

unfoldable pub held_low : ℕ → Float
held_low w = nearest_float (pos (w * unit) -ℤ units (held_high w))

-- the upper 32 bits of a word, in their place, and the lower 32; each is a float, and the exact sum of the two gives the parts
abbrev pub upper : ℕ → Float
upper w = mul binary64 (of_int binary64 (pos (w / 2 ^ 32))) (from_bits binary64 0x41f0_0000_0000_0000)

abbrev pub lower : ℕ → Float
lower w = of_int binary64 (pos (w % 2 ^ 32))

-- hi is the float nearest to the word w, and hi and lo together are w itself
pub record Held (w : ℕ) (hi lo : Float) : Type 0 where
  pub nearest : hi ≡ held_high w
  pub lo_finite : T (finite lo)
  pub exact : units hi +ℤ units lo ≡ pos (w * unit)

-- a first guess at the root of w: a third of the sum of w / 2 ^ 31 and 2 ^ 32, cut to a whole number; at 2 ^ 62 and 2 ^ 64 it would be the root itself
abbrev pub first_guess : ℕ → Float
first_guess w = of_int binary64 (pos ((w / 2 ^ 31 + 2 ^ 32) / 3))

-- (x + q) / 2
abbrev pub mean : Float → Float → Float
mean x q = mul binary64 (add binary64 x q) (from_bits binary64 0x3fe0_0000_0000_0000)

-- a Newton step from the guess x at the root of t
abbrev pub stepped : Float → Float → Float
stepped x t = mean x (div binary64 t x)

-- the last step, from the guess x at the root of hi + lo
abbrev pub last_step : Float → Float → Float → Float
last_step x hi lo = mean x (add binary64 (div binary64 hi x) (div binary64 lo x))

-- three steps with the high part alone, and the last with both
abbrev pub improved : Float → Float → Float → Float
improved x hi lo = last_step (stepped (stepped (stepped x hi) hi) hi) hi lo

-- x * 2 ^ 22, which turns the root of w into that of w * 2 ^ 44
abbrev pub scaled : Float → Float
scaled x = mul binary64 x (from_bits binary64 0x4150_0000_0000_0000)

-- x lies above -1 and below 2 ^ 64, so that cutting it to a whole number of 64 bits loses only the fraction
pub record InRange (x : Float) : Type 0 where
  pub least : T (lt (fin true 1 (pos 0)) x)
  pub most : T (lt x (fin false 1 (pos 64)))

-- the scaled root, cut to a whole number and kept to 54 bits
abbrev pub cut : Float → ℕ
cut x = max (min (to_unsigned 64 (scaled x)) (2 ^ 54 - 1)) (2 ^ 53)

-- The proposal for w is a free choice within the grade: any other within 16 of the word's root would serve as well.
-- It is pinned only so that it is one for each word.
unfoldable pub float_proposal : ℕ → ℕ
float_proposal w = cut (improved (first_guess w) (held_high w) (held_low w))

-- its proposals lie at most 2 ^ 4 from the word's root
abbrev pub float_source : Source
float_source = record { grade = 4; proposal = float_proposal }
