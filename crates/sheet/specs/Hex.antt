-- Numbers in hexadecimal digits, the most significant first.
use Rattle.std.specs.Prelude.{ℕ, ◌+◌, ◌-◌, ◌*◌, cond, ◌&&◌, List, [], ◌∷◌, length, is_some, Some, None, Ok, Err, Option, Result, ◌==◌, nat_le}
use Rattle.std.specs.Option.{unwrap_or}
use Rattle.sheet.specs.declared.hex.NotADigit.{NotADigit}

-- the value of the digits 0 to 9, a to f and A to F, by their ASCII codes
abbrev pub hex_digit : ℕ → Option ℕ
hex_digit byte =
    cond (nat_le 48 byte && nat_le byte 57) (Some (byte - 48))
    (cond (nat_le 97 byte && nat_le byte 102) (Some (byte - 87))
    (cond (nat_le 65 byte && nat_le byte 70) (Some (byte - 55)) None))

-- how many bytes stand before the first that is no digit
unfoldable pub leading_digits : List ℕ → ℕ
leading_digits [] = 0
leading_digits (byte ∷ bytes) = cond (is_some (hex_digit byte)) (leading_digits bytes + 1) 0

-- the number that digits spell behind those of value
unfoldable pub spelt_behind : ℕ → List ℕ → ℕ
spelt_behind value [] = value
spelt_behind value (byte ∷ bytes) = spelt_behind (16 * value + unwrap_or (hex_digit byte) 0) bytes

-- the number that a field spells, or the place of its first byte that is no digit, where the field begins at a place of its line
abbrev pub hex_number : ℕ → List ℕ → Result ℕ NotADigit
hex_number place field =
    cond (leading_digits field == length field) (Ok (spelt_behind 0 field)) (Err (record { place = place + leading_digits field }))
