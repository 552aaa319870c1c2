-- Reading a field byte by byte: what is read so far and what is left make up the whole.
use Rattle.std.proofs.Common.{◌≡◌, ℕ, ◌+◌, ◌*◌, ◌^◌, ◌<◌, ◌≤◌, Bool, cond, List, [], ◌∷◌, length, get_or, drop, is_some, Some, None, Ok, Err, unwrap_or, ap, ◌∙◌, add-one, arith, drop-cons, pow-add, eq-eqb, ne_eqb}
use native.Mathlib.Nat.{pow-le-pow_right}
use lib.Seq.{drop-length}
use Rattle.std.proofs.lemmas.Bool.Decides.{nat_tests}
use Rattle.sheet.specs.Hex.{hex_digit, leading_digits, spelt_behind, hex_number}

-- after i bytes, all digits, which spell value
pub record SoFar (field : List ℕ) (i value : ℕ) : Type 0 where
  pub digits : leading_digits field ≡ i + leading_digits (drop i field)
  pub spells : spelt_behind 0 field ≡ spelt_behind value (drop i field)
  pub small : value < 16 ^ i

pub digit_small : (byte digit : ℕ) → hex_digit byte ≡ Some digit → digit < 16
digit_small byte digit h = grind (arith, nat_tests)

next_leading : (byte digit : ℕ) (bytes : List ℕ) → hex_digit byte ≡ Some digit → leading_digits (byte ∷ bytes) ≡ leading_digits bytes + 1
unfolding leading_digits
next_leading byte digit bytes h = ap (λ d. cond (is_some d) (leading_digits bytes + 1) 0) h

stops : (byte : ℕ) (bytes : List ℕ) → hex_digit byte ≡ None → leading_digits (byte ∷ bytes) ≡ 0
unfolding leading_digits
stops byte bytes h = ap (λ d. cond (is_some d) (leading_digits bytes + 1) 0) h

next_spelt : (value byte digit : ℕ) (bytes : List ℕ) → hex_digit byte ≡ Some digit → spelt_behind value (byte ∷ bytes) ≡ spelt_behind (16 * value + digit) bytes
unfolding spelt_behind
next_spelt value byte digit bytes h = ap (λ d. spelt_behind (16 * value + unwrap_or d 0) bytes) h

module _ (field : List ℕ) (i value : ℕ) (so : SoFar field i value) where
  module _ (lt : i < length field) where
    split : drop i field ≡ get_or field i 0 ∷ drop (i + 1) field
    split = rw (add-one, drop-cons field i 0)

    pub one_more : (digit : ℕ) → hex_digit (get_or field i 0) ≡ Some digit → SoFar field (i + 1) (16 * value + digit)
    one_more digit h = record {
      digits = so.digits ∙ ap (λ (x : ℕ). i + x) (ap leading_digits split ∙ next_leading (get_or field i 0) digit (drop (i + 1) field) h) ∙ omega arith;
      spells = so.spells ∙ ap (spelt_behind value) split ∙ next_spelt value (get_or field i 0) digit (drop (i + 1) field) h;
      small = omega (arith, so.small, digit_small (get_or field i 0) digit h, pow-add 16 i 1);
    }

    pub first_other : (place : ℕ) → hex_digit (get_or field i 0) ≡ None → hex_number place field ≡ Err (record { place = place + i })
    first_other place h =
        let e : leading_digits field ≡ i = so.digits ∙ ap (λ (x : ℕ). i + x) (ap leading_digits split ∙ stops (get_or field i 0) (drop (i + 1) field) h) ∙ omega arith in
        ap (λ (b : Bool). cond b (Ok (spelt_behind 0 field)) (Err (record { place = place + leading_digits field }))) (ne_eqb (leading_digits field) (length field) (omega arith))
        ∙ ap (λ (x : ℕ). Err (record { place = place + x })) e

  pub all_digits : (place : ℕ) → i ≡ length field → hex_number place field ≡ Ok value
  unfolding leading_digits spelt_behind
  all_digits place q =
      let none : drop i field ≡ [] = ap (λ (x : ℕ). drop x field) q ∙ drop-length field in
      let e : leading_digits field ≡ length field = so.digits ∙ ap (λ (x : List ℕ). i + leading_digits x) none ∙ omega arith in
      ap (λ (b : Bool). cond b (Ok (spelt_behind 0 field)) (Err (record { place = place + leading_digits field }))) (eq-eqb (leading_digits field) (length field) e)
      ∙ ap Ok (so.spells ∙ ap (spelt_behind value) none)

-- fewer than sixteen digits leave room for one more in a word
pub room : (field : List ℕ) (i value : ℕ) → SoFar field i value → i < 16 → 16 * value + 15 < 2 ^ 64
room field i value so h = let j : i ≤ 15 = omega arith in omega (arith, so.small, powers j)
  where
    powers : i ≤ 15 → 16 ^ i ≤ 16 ^ 15
    powers j = pow-le-pow_right {n = 16} (omega arith) j
