-- Written digits are digits, and one more at the end makes sixteen times the number before it and its value.
use Rattle.std.proofs.Common.{◌≡◌, ℕ, zero, suc, ◌+◌, ◌*◌, ◌/◌, ◌%◌, ◌^◌, ◌<◌, Bool, cond, List, [], ◌∷◌, ◌++◌, length, is_some, Some, None, Ok, Err, unwrap_or, sym, refl, ap, ◌∙◌, arith, length-append, pow-add, eq-eqb}
use Rattle.std.proofs.lemmas.Bool.Decides.{nat_tests}
use Rattle.sheet.specs.Hex.{hex_digit, leading_digits, spelt_behind, hex_number}
use Rattle.commands.specs.Hex.{digit_byte, hex_digits}

digit_reads : (value : ℕ) → value < 16 → hex_digit (digit_byte value) ≡ Some value
digit_reads value small = grind (arith, nat_tests)

leading_both : (xs ys : List ℕ) → leading_digits xs ≡ length xs → leading_digits (xs ++ ys) ≡ length xs + leading_digits ys
unfolding leading_digits
leading_both [] ys all = omega arith
leading_both (x ∷ xs) ys all =
    elim (hex_digit x) as (λ d. cond (is_some d) (leading_digits xs + 1) 0 ≡ suc (length xs) → cond (is_some d) (leading_digits (xs ++ ys) + 1) 0 ≡ suc (length xs) + leading_digits ys) [
      | None ↦ λ none. absurd (omega (arith, none))
      | Some d ↦ λ more. let rest : leading_digits xs ≡ length xs = omega (arith, more) in omega (arith, leading_both xs ys rest)
    ] all

spelt_push : (value : ℕ) (xs : List ℕ) (byte : ℕ) → spelt_behind value (xs ++ byte ∷ []) ≡ 16 * spelt_behind value xs + unwrap_or (hex_digit byte) 0
unfolding spelt_behind
spelt_push value [] byte = refl
spelt_push value (x ∷ xs) byte = spelt_push (16 * value + unwrap_or (hex_digit x) 0) xs byte

one_leads : (value : ℕ) → value < 16 → leading_digits (digit_byte value ∷ []) ≡ 1
unfolding leading_digits
one_leads value small = ap (λ d. cond (is_some d) 1 0) (digit_reads value small)

all_lead : (digits number : ℕ) → leading_digits (hex_digits digits number) ≡ length (hex_digits digits number)
unfolding hex_digits leading_digits
all_lead zero number = refl
all_lead (suc before) number =
    let front = hex_digits before (number / 16) in
    let last = digit_byte (number % 16) ∷ [] in
    leading_both front last (all_lead before (number / 16)) ∙ ap (λ n. length front + n) (one_leads (number % 16) (omega arith)) ∙ sym (length-append front last)

spells : (digits number : ℕ) → number < 16 ^ digits → spelt_behind 0 (hex_digits digits number) ≡ number
unfolding hex_digits spelt_behind
spells zero number small = omega arith
spells (suc before) number small =
    let fits : number / 16 < 16 ^ before = omega (arith, pow-add 16 before 1) in
    spelt_push 0 (hex_digits before (number / 16)) (digit_byte (number % 16))
    ∙ ap (λ d. 16 * spelt_behind 0 (hex_digits before (number / 16)) + unwrap_or d 0) (digit_reads (number % 16) (omega arith))
    ∙ ap (λ n. 16 * n + number % 16) (spells before (number / 16) fits)
    ∙ omega arith

pub written_reads_back : (place digits number : ℕ) → number < 16 ^ digits → hex_number place (hex_digits digits number) ≡ Ok number
written_reads_back place digits number small =
    let field = hex_digits digits number in
    ap (λ (b : Bool). cond b (Ok (spelt_behind 0 field)) (Err (record { place = place + leading_digits field }))) (eq-eqb (leading_digits field) (length field) (all_lead digits number))
    ∙ ap Ok (spells digits number small)
