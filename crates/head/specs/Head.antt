-- The head of a float: its word of 63 or 64 bits.
use Rattle.std.specs.Prelude.{◌≡◌, ℕ, ◌+◌, ◌-◌, ◌*◌, ◌/◌, ◌%◌, ◌^◌, ◌<◌, ◌≤◌, false, cond, T, ◌==◌, unsigned_abs, Float}
use Rattle.std.specs.Float.{binary64}
use Rattle.std.specs.Float.Ieee.{fits, size}
use Rattle.std.specs.Float.Ieee.Exact.{HasValue}
use Rattle.floats.specs.Units.{unit, units}
use Rattle.floats.specs.Holds.{Holds}

-- h is word / 4 ^ places, with a word of 63 or 64 bits
pub record Heads (h : Float) (word places : ℕ) : Type 0 where
  pub value : HasValue h false word (4 ^ places)
  pub least : 2 ^ 62 ≤ word
  pub most : word < 2 ^ 64

-- h is neither tiny nor huge: it lies from 2 ^ -83 to 128
pub record Ordinary (h : Float) : Type 0 where
  pub count : ℕ
  pub holds : Holds h count
  pub least : unit ≤ count * 2 ^ 83
  pub most : count ≤ 128 * unit

-- some word and places are the head of h
pub record HasHead (h : Float) : Type 0 where
  pub word : ℕ
  pub places : ℕ
  pub heads : Heads h word places

-- every ordinary number of binary64 has a head
abbrev pub HeadExists : Type 0
HeadExists = (h : Float) → T (fits binary64 h) → Ordinary h → HasHead h

-- and no float has two
abbrev pub HeadIsUnique : Type 0
HeadIsUnique = (h : Float) (word places word' places' : ℕ) → Heads h word places → Heads h word' places' → (word ≡ word') × (places ≡ places')

-- The head, computed: h is so many units of 2 ^ -1074, and the word is that number over the power of two that leaves
-- 63 or 64 bits, whichever makes the places whole.

unfoldable pub head_places : Float → ℕ
head_places h = (1138 - size (unsigned_abs (units h))) / 2

unfoldable pub head_word : Float → ℕ
head_word h = unsigned_abs (units h) * 4 ^ head_places h / unit

-- a head is the computed one
abbrev pub HeadIsComputed : Type 0
HeadIsComputed = (h : Float) (word places : ℕ) → T (fits binary64 h) → Heads h word places → (head_word h ≡ word) × (head_places h ≡ places)

-- The head by the bit pattern of h: the significand moved up so that an even number of places is left.

abbrev pub pattern_word : ℕ → ℕ
pattern_word bits = (bits % 2 ^ 52 + 2 ^ 52) * cond (bits / 2 ^ 52 % 2 == 0) (2 ^ 11) (2 ^ 10)

abbrev pub pattern_places : ℕ → ℕ
pattern_places bits = (1086 - bits / 2 ^ 52) / 2
