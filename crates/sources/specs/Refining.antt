-- Newton's step: the mean of a guess g and radicand / g is never below the root r, and above it by (g - r) ^ 2 / (2 * g).
use Rattle.std.specs.Prelude.{◌≡◌, ℕ, zero, suc, ◌+◌, ◌-◌, ◌*◌, ◌/◌, ◌^◌, ◌<◌, ◌≤◌, cond, ◌⊎◌, refl}
use Rattle.std.proofs.Common.{sym, ap, ◌∙◌, subst, inl, inr, mul-le-mul, mul-le-mul_right, mul-le-mul_left, div-mul-le_self, le_trans, arith, pow-add, pow_pos, le-leb}
use Rattle.std.proofs.Math.Nat.{lt-div-mul-add}
use Rattle.std.proofs.lemmas.Bool.{lt-leb}
use Rattle.exact.specs.Root.{isqrt}
use Rattle.exact.proofs.Roots.{isqrt_is}
use Rattle.exact.proofs.Squares.{le_unless, lt_or_le, squares_le, two_le}
use Rattle.sources.specs.Source.{Word, WordRoot, Source, Sound}
use Rattle.sources.specs.Refined.{word_quotient, refined_guess, refined_grade, repeated, refined, StepError}
use Rattle.sources.specs.Words.{root_least, root_most}

-- four times a product is at most the square of the sum
four_products : (x y : ℕ) → 4 * (x * y) ≤ (x + y) * (x + y)
four_products x y =
    elim (lt_or_le x y) [
      | inl h ↦ let e : y ≡ x + (y - x) = omega arith in subst (λ (z : ℕ). 4 * (x * z) ≤ (x + z) * (x + z)) (sym e) (omega arith)
      | inr h ↦ let e : x ≡ y + (x - y) = omega arith in subst (λ (z : ℕ). 4 * (z * y) ≤ (z + y) * (z + y)) (sym e) (omega arith)
    ]

-- the distance of two numbers, either way
apart : (a b : ℕ) → (x : ℕ) × ((a ≡ b + x) ⊎ (b ≡ a + x)) × (x ≤ a - b + (b - a))
apart a b = elim (lt_or_le b a) [ inl h ↦ (a - b, inl (omega arith), omega arith) | inr h ↦ (b - a, inr (omega arith), omega arith) ]

module _ (w s g : ℕ) (root : WordRoot w s) (G : 2 ^ 53 ≤ g) where
  abbrev mean : ℕ
  mean = (g + word_quotient w g) / 2

  quotient_low : word_quotient w g * g ≤ w * 2 ^ 44
  quotient_low = div-mul-le_self (w * 2 ^ 44) g

  quotient_high : w * 2 ^ 44 < word_quotient w g * g + g
  quotient_high = lt-div-mul-add (omega arith)

  -- never below the root
  mean_least : s ≤ mean
  mean_least =
      le_unless _ _ (λ (h : mean < s).
      let a : word_quotient w g + 1 + g ≤ 2 * s = omega arith in
      omega (arith, four_products (word_quotient w g + 1) g, mul-le-mul a a, quotient_high, root.low))

  -- a mean above s + e would put 2 * e * g below the square of the distance from g to s + 1
  too_far : (e : ℕ) → s + e < mean → (2 * (s + 1) + 2 * e) * g < g * g + (s + 1) * (s + 1)
  too_far e h =
      let a : (2 * (s + 1) + 2 * e) * g ≤ (g + word_quotient w g) * g = mul-le-mul_right g (omega arith) in
      omega (arith, a, quotient_low, root.high)

  mean_most : (e x : ℕ) → x * x ≤ e * 2 ^ 54 → (g ≡ s + 1 + x) ⊎ (s + 1 ≡ g + x) → mean ≤ s + e
  mean_most e x X (inl q) =
      le_unless _ _ (λ (h : s + e < mean).
      let a = too_far e h in
      let b = subst (λ (z : ℕ). (2 * (s + 1) + 2 * e) * z < z * z + (s + 1) * (s + 1)) q a in
      omega (arith, b, X, mul-le-mul_left e G, ap (λ (z : ℕ). e * z) q))
  mean_most e x X (inr q) =
      le_unless _ _ (λ (h : s + e < mean).
      let a = too_far e h in
      let b = subst (λ (z : ℕ). (2 * z + 2 * e) * g < g * g + z * z) q a in
      omega (arith, b, X, mul-le-mul_left e G))

pub step_error : StepError
step_error w s g d e word root G near h = (omega (arith, mean_least w s g root G, root_most w s word root), go (apart g (s + 1)))
  where
    go : (x : ℕ) × ((g ≡ s + 1 + x) ⊎ (s + 1 ≡ g + x)) × (x ≤ g - (s + 1) + (s + 1 - g)) → refined_guess w g ≤ s + e
    go (x, sides, X) =
        let a : x ≤ d + 1 = omega (arith, near.above, near.below) in
        omega (arith, mean_most w s g root G e x (le_trans (squares_le x (d + 1) a) h) sides)

grade_is : (c : ℕ) → ((c ≤ 26) × (refined_grade c ≡ 0)) ⊎ ((27 ≤ c) × (refined_grade c ≡ 2 * c - 53))
grade_is c =
    elim (lt_or_le 26 c) [
      | inl h ↦ inr (omega arith, ap (λ b. cond b 0 (2 * c - 53)) (lt-leb c 26 h))
      | inr h ↦ inl (h, ap (λ b. cond b 0 (2 * c - 53)) (le-leb c 26 h))
    ]

-- so from the grade c, within 2 ^ c of the root, a step comes within 1 or 2 ^ (2 * c - 53)
grade_rule : (c : ℕ) → (2 ^ c + 1) * (2 ^ c + 1) ≤ 2 ^ refined_grade c * 2 ^ 54
grade_rule c =
    elim (grade_is c) [
      | inl h ↦
          let a : 2 ^ c + 1 ≤ 2 ^ 26 + 1 = omega (arith, two_le c 26 h.0) in
          subst (λ (x : ℕ). (2 ^ c + 1) * (2 ^ c + 1) ≤ 2 ^ x * 2 ^ 54) (sym h.1) (omega (arith, squares_le (2 ^ c + 1) (2 ^ 26 + 1) a))
      | inr h ↦
          let a : 2 ^ (2 * c - 53) * 2 ^ 54 ≡ 2 * (2 ^ c * 2 ^ c) =
          sym (pow-add 2 (2 * c - 53) 54) ∙ ap (λ (x : ℕ). 2 ^ x) {y = c + c + 1} (omega arith) ∙ pow-add 2 (c + c) 1 ∙ omega (arith, pow-add 2 c c) in
          let b : 2 ^ 27 * 2 ^ c ≤ 2 ^ c * 2 ^ c = mul-le-mul_right (2 ^ c) (two_le 27 c h.0) in
          subst (λ (x : ℕ). (2 ^ c + 1) * (2 ^ c + 1) ≤ 2 ^ x * 2 ^ 54) (sym h.1) (omega (arith, a, b, pow_pos c))
    ]

pub grade_most : (c : ℕ) → c ≤ 53 → refined_grade c ≤ 53
grade_most c h = elim (grade_is c) [ inl k ↦ omega (arith, k.1) | inr k ↦ omega (arith, k.1) ]

-- a step from 54 bits does not end below 54 bits
pub guess_least : (w g : ℕ) → Word w → 2 ^ 53 ≤ g → 2 ^ 53 ≤ refined_guess w g
guess_least w g word G =
    let s = isqrt (w * 2 ^ 44) in
    let root = isqrt_is (w * 2 ^ 44) in
    omega (arith, mean_least w s g root G, root_least w s word root)

pub repeated_none : (f : ℕ → ℕ) (x : ℕ) → x ≡ repeated 0 f x
unfolding repeated
repeated_none f x = refl

pub repeated_more : (n : ℕ) (f : ℕ → ℕ) (x y : ℕ) → y ≡ repeated n f x → f y ≡ repeated (n + 1) f x
unfolding repeated
repeated_more n f x y h = ap f h ∙ ap (λ (k : ℕ). repeated k f x) {x = suc n} {y = n + 1} (omega arith)

refined_once : (source : Source) → Sound source → Sound (record { grade = refined_grade source.grade; proposal = λ w. refined_guess w (source.proposal w) })
refined_once source sound = record {
  graded = grade_most source.grade sound.graded;
  least = λ w word. guess_least w (source.proposal w) word (sound.least w word);
  most = λ w word. omega arith;
  near = λ w s word root.
      let c = source.grade in
      let r = step_error w s (source.proposal w) (2 ^ c) (2 ^ refined_grade c) word root (sound.least w word) (sound.near w s word root) (grade_rule c) in
      record { above = r.1; below = omega (arith, r.0) };
}

-- steps keep a source sound
pub refined_sound : (steps : ℕ) (source : Source) → Sound source → Sound (refined steps source)
unfolding repeated
refined_sound zero source sound = sound
refined_sound (suc n) source sound = refined_once (refined n source) (refined_sound n source sound)
