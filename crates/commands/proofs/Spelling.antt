-- Hexadecimal digits are pushed the most significant first: those of the quotient, then that of the remainder.
use Rattle.std.proofs.Common.{◌≡◌, ℕ, zero, suc, ◌+◌, ◌-◌, ◌/◌, ◌%◌, ◌<◌, ◌≤◌, List, [], ◌∷◌, ◌++◌, length, take, sym, refl, ap, ◌∙◌, add-one, arith}
use Rattle.std.proofs.lemmas.List.{append-nil, length_push}
use Rattle.commands.specs.Hex.{digit_byte, hex_digits}
use Rattle.commands.proofs.Cut.{pushed_more}

-- one more hexadecimal digit
hex_step : (digits n : ℕ) → 0 < digits → hex_digits digits n ≡ hex_digits (digits - 1) (n / 16) ++ digit_byte (n % 16) ∷ []
unfolding hex_digits
hex_step zero n some = absurd (omega arith)
hex_step (suc before) n some = let e : suc before - 1 ≡ before = omega arith in rw e refl

pub hex_more : (xs : List ℕ) (digits n byte : ℕ) {kept after : List ℕ} → 0 < digits → byte ≡ digit_byte (n % 16) → kept ≡ take 81 (xs ++ hex_digits (digits - 1) (n / 16)) → after ≡ take 81 (kept ++ byte ∷ []) → after ≡ take 81 (xs ++ hex_digits digits n)
hex_more xs digits n byte some is was now =
    pushed_more xs (hex_digits (digits - 1) (n / 16)) (byte ∷ []) was now
    ∙ ap (λ ds. take 81 (xs ++ ds)) (ap (λ b. hex_digits (digits - 1) (n / 16) ++ b ∷ []) is ∙ sym (hex_step digits n some))

-- no digit
pub hex_none : (xs : List ℕ) (digits n : ℕ) → digits ≤ 0 → xs ≡ take 81 xs → xs ≡ take 81 (xs ++ hex_digits digits n)
unfolding hex_digits
hex_none xs zero n none short = short ∙ ap (take 81) (sym (append-nil xs))
hex_none xs (suc before) n none short = absurd (omega arith)

-- leading zeros fill the width
pub length_hex : (digits n : ℕ) → length (hex_digits digits n) ≡ digits
unfolding hex_digits
length_hex zero n = refl
length_hex (suc before) n = length_push (hex_digits before (n / 16)) (digit_byte (n % 16)) ∙ ap (λ k. k + 1) (length_hex before (n / 16)) ∙ add-one before
