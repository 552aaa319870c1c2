-- Numbers written in hexadecimal digits, the most significant first; how they are read, the crate sheet says.
use Rattle.std.specs.Prelude.{◌≡◌, ℕ, zero, suc, ◌+◌, ◌/◌, ◌%◌, ◌^◌, ◌<◌, cond, List, [], ◌∷◌, ◌++◌, Ok, nat_lt}
use Rattle.sheet.specs.Hex.{hex_number}

-- the digit of a value below 16, in small letters
abbrev pub digit_byte : ℕ → ℕ
digit_byte value = cond (nat_lt value 10) (48 + value) (87 + value)

-- the last so many digits of a number, leading zeros among them
unfoldable pub hex_digits : ℕ → ℕ → List ℕ
hex_digits zero number = []
hex_digits (suc before) number = hex_digits before (number / 16) ++ digit_byte (number % 16) ∷ []

-- digits that are written read back as the number that they were written for
abbrev pub WrittenReadsBack : Type 0
WrittenReadsBack = (place digits number : ℕ) → number < 16 ^ digits → hex_number place (hex_digits digits number) ≡ Ok number
