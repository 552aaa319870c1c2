-- The head of a float. Two words of 63 or 64 bits over unlike powers of four differ, so there is one head at most; the pattern of the float gives it.
use Rattle.std.proofs.Common.{◌≡◌, ℕ, zero, suc, ◌+◌, ◌*◌, ◌/◌, ◌%◌, ◌^◌, ◌<◌, ◌≤◌, false, cond, T, eqb, sym, refl, ap, ◌∙◌, subst, mul_assoc, mul-le-mul, mul-lt-mul_of_pos_right, arith, pow_pos, pow-add}
use native.Mathlib.Nat.{eq_of_mul-eq-mul_right}
use lib.Ieee.{Float, nan, inf, fin, binary64, to_bits, fits, down}
use lib.Ieee.Exact.{HasValue}
use lib.Ieee.Fits.{down_pos}
use Rattle.exact.proofs.Ulps.{four_is}
use Rattle.floats.specs.Units.{unit}
use Rattle.floats.specs.Holds.{Holds}
use Rattle.floats.proofs.Fractions.{rescale}
use Rattle.head.specs.Head.{Heads, Ordinary, HeadExists, HeadIsUnique, pattern_word, pattern_places}
use Rattle.head.proofs.Powers.{four_pos, four_more}
use Rattle.head.proofs.Patterns.{Parts, parts}

-- One head at most.

-- two fractions that one float equals
pub cross : (h : Float) (a c b d : ℕ) → HasValue h false a c → HasValue h false b d → a * d ≡ b * c
cross nan a c b d v w = absurd v
cross (inf s) a c b d v w = absurd v
cross (fin s m e) a c b d v w =
    eq_of_mul-eq-mul_right (down e) (down_pos e) (a * d) (b * c) (omega (arith, ap (λ (z : ℕ). z * d) v.1, ap (λ (z : ℕ). z * c) w.1))

not_lower : (h : Float) (w a v b : ℕ) → Heads h w a → Heads h v b → a < b → ⊥
not_lower h w a v b p q l =
    let e = cross h w (4 ^ a) v (4 ^ b) p.value q.value in
    let x : 2 ^ 62 * (4 * 4 ^ a) ≤ w * 4 ^ b = mul-le-mul p.least (four_more a b l) in
    let y : v * 4 ^ a < 2 ^ 64 * 4 ^ a = mul-lt-mul_of_pos_right q.most (four_pos a) in
    omega arith

pub head_unique : HeadIsUnique
head_unique h w a v b p q =
    let same : a ≡ b = level a b (not_lower h w a v b p q) (not_lower h v b w a q p) in
    (eq_of_mul-eq-mul_right (4 ^ b) (four_pos b) w v (cross h w (4 ^ a) v (4 ^ b) p.value q.value ∙ ap (λ (x : ℕ). v * 4 ^ x) same), same)
  where
    level : (a b : ℕ) → (a < b → ⊥) → (b < a → ⊥) → a ≡ b
    level a b f g = omega arith

-- The head by the pattern.

-- word / 4 ^ places from q * 2 ^ k units
word_value : (h : Float) (k q w j a : ℕ) → w ≡ q * 2 ^ j → k + 2 * a ≡ j + 1074 → Holds h (q * 2 ^ k) → HasValue h false w (4 ^ a)
unfolding unit
word_value h k q w j a e s v =
    subst (HasValue h false w) (sym (four_is a))
    (rescale h false (q * 2 ^ k) (2 ^ 1074) w (2 ^ (2 * a)) (pow_pos 1074)
    (ap (λ (y : ℕ). y * 2 ^ 1074) e ∙ mul_assoc q (2 ^ j) (2 ^ 1074) ∙ ap (λ (y : ℕ). q * y) (sym (pow-add 2 j 1074) ∙ ap (λ (y : ℕ). 2 ^ y) (sym s) ∙ pow-add 2 k (2 * a)) ∙ sym (mul_assoc q (2 ^ k) (2 ^ (2 * a))))
    v)

module _ (h : Float) (bits : ℕ) (p : Parts h bits) where
  pub field_most : bits / 2 ^ 52 ≤ 1086
  field_most = omega (arith, p.pattern, p.high_place, p.high_digits)

  fields : (bits / 2 ^ 52 ≡ p.k + 1) × (bits % 2 ^ 52 + 2 ^ 52 ≡ p.q)
  fields = omega (arith, p.pattern, p.low_digits, p.high_digits)

  head_at : (j w a : ℕ) → w ≡ p.q * 2 ^ j → p.k + 2 * a ≡ j + 1074 → 2 ^ 62 ≤ w → w < 2 ^ 64 → Heads h w a
  head_at j w a e s lo hi = record { value = word_value h p.k p.q w j a e s p.value; least = lo; most = hi }

  pub pattern_heads : Heads h (pattern_word bits) (pattern_places bits)
  pattern_heads = go (bits / 2 ^ 52 % 2) refl
    where
      go : (r : ℕ) → bits / 2 ^ 52 % 2 ≡ r → Heads h (pattern_word bits) (pattern_places bits)
      go zero e =
          let w : pattern_word bits ≡ p.q * 2 ^ 11 = (λ i. fields.1 i * cond (eqb (e i) 0) (2 ^ 11) (2 ^ 10)) in
          head_at 11 (pattern_word bits) (pattern_places bits) w (omega (arith, fields, p.low_place, p.high_place)) (omega (arith, w, p.low_digits)) (omega (arith, w, p.high_digits))
      go (suc zero) e =
          let w : pattern_word bits ≡ p.q * 2 ^ 10 = (λ i. fields.1 i * cond (eqb (e i) 0) (2 ^ 11) (2 ^ 10)) in
          head_at 10 (pattern_word bits) (pattern_places bits) w (omega (arith, fields, p.low_place, p.high_place)) (omega (arith, w, p.low_digits)) (omega (arith, w, p.high_digits))
      go (suc (suc r)) e = absurd (omega arith)

pub head_exists : HeadExists
head_exists h f o = let b = to_bits binary64 h in record { word = pattern_word b; places = pattern_places b; heads = pattern_heads h b (parts h f o) }

-- the head that the code reads off the pattern
module _ (h : Float) (f : T (fits binary64 h)) (o : Ordinary h) where
  pub pattern_field : to_bits binary64 h / 2 ^ 52 ≤ 1086
  pattern_field = field_most h (to_bits binary64 h) (parts h f o)

  pub read_head : (w a : ℕ) → w ≡ pattern_word (to_bits binary64 h) → a ≡ pattern_places (to_bits binary64 h) → Heads h w a
  read_head w a e d = subst (λ (x : ℕ). Heads h x a) (sym e) (subst (λ (x : ℕ). Heads h (pattern_word (to_bits binary64 h)) x) (sym d) (pattern_heads h (to_bits binary64 h) (parts h f o)))
