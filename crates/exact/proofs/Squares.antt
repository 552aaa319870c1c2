-- Orders of squares and powers: a square root is monotone, and 4 ^ e is the square of 2 ^ e.
use Rattle.std.proofs.Common.{◌≡◌, ℕ, zero, suc, ◌+◌, ◌-◌, ◌*◌, ◌^◌, ◌<◌, ◌≤◌, ◌⊎◌, sym, refl, ap, ◌∙◌, inl, inr, mul_assoc, eq-zero-or-pos, mul-le-mul, lt_of_not-le, arith, pow-add}
use native.Mathlib.Nat.{pow-le-pow_right, one-le-pow}

pub lt_of_squares : (a b : ℕ) → a * a < b * b → a < b
lt_of_squares a b h = lt_of_not-le (λ (g : b ≤ a). omega (arith, mul-le-mul g g))

pub le_of_squares : (a b : ℕ) → a * a ≤ b * b → a ≤ b
le_of_squares a b h = let p : a < b + 1 = lt_of_squares a (b + 1) (omega arith) in omega arith

pub squares_le : (a b : ℕ) → a ≤ b → a * a ≤ b * b
squares_le a b h = mul-le-mul h h

pub le_unless : (a b : ℕ) → (b < a → ⊥) → a ≤ b
le_unless a b h = let p : a < b + 1 = lt_of_not-le (λ (g : b + 1 ≤ a). h (omega arith)) in omega arith

pub lt_unless : (a b : ℕ) → (b ≤ a → ⊥) → a < b
lt_unless a b h = lt_of_not-le h

pub lt_or_le : (a b : ℕ) → (a < b) ⊎ (b ≤ a)
lt_or_le a b = elim (eq-zero-or-pos (b - a)) [ inl z ↦ inr (omega arith) | inr p ↦ inl (omega arith) ]

pub four_two : (e : ℕ) → 4 ^ e ≡ 2 ^ e * 2 ^ e
four_two zero = refl
four_two (suc e) = let p : 2 ^ suc e ≡ 2 * 2 ^ e = omega arith in omega (arith, four_two e, ap (λ (x : ℕ). x * x) p)

pub four_pos : (e : ℕ) → 0 < 4 ^ e
four_pos e = one-le-pow e 4 (omega arith)

pub two_le : (i j : ℕ) → i ≤ j → 2 ^ i ≤ 2 ^ j
two_le i j h = pow-le-pow_right {n = 2} (omega arith) h

-- 2 ^ p from the power below it
pub two_half : (p : ℕ) → 1 ≤ p → 2 ^ p ≡ 2 * 2 ^ (p - 1)
two_half p h = ap (λ (x : ℕ). 2 ^ x) {y = p - 1 + 1} (omega arith) ∙ pow-add 2 (p - 1) 1 ∙ omega arith

-- 4 ^ (p + e) as a square
pub square_at : (p e : ℕ) → 4 ^ (p + e) ≡ 2 ^ p * 2 ^ e * (2 ^ p * 2 ^ e)
square_at p e = four_two (p + e) ∙ ap (λ (x : ℕ). x * x) (pow-add 2 p e)

-- a number with a larger exponent is a multiple of 2 ^ e
pub multiple : (j e f : ℕ) → e ≤ f → (m : ℕ) × (j * 2 ^ f ≡ m * 2 ^ e)
multiple j e f h =
    (j * 2 ^ (f - e), ap (λ (x : ℕ). j * 2 ^ x) {y = f - e + e} (omega arith) ∙ ap (λ (x : ℕ). j * x) (pow-add 2 (f - e) e) ∙ sym (mul_assoc j (2 ^ (f - e)) (2 ^ e)))
