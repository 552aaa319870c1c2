-- The first guess: the square of (v + 2 ^ 32) / 3 is at most 2 ^ 31 * v between v = 2 ^ 31 and v = 2 ^ 33, and at least eight ninths of it.
use Rattle.std.specs.Prelude.{◌≡◌, ℕ, ◌+◌, ◌-◌, ◌*◌, ◌/◌, ◌^◌, ◌<◌, ◌≤◌}
use Rattle.std.proofs.Common.{subst, inl, inr, mul-le-mul, mul-le-mul_left, eq-zero-or-pos, arith}
use Rattle.floats.specs.Near.{Near}
use Rattle.sources.specs.Source.{Word}

-- four products are at most the square of the sum
mean : (a b : ℕ) → 4 * a * b ≤ (a + b) * (a + b)
mean a b = elim (eq-zero-or-pos (a - b)) [
  | inl z ↦ let e : b - a + a ≡ b = omega arith in subst (λ (y : ℕ). 4 * a * y ≤ (a + y) * (a + y)) e (omega arith)
  | inr p ↦ let e : a - b + b ≡ a = omega arith in subst (λ (y : ℕ). 4 * y * b ≤ (y + b) * (y + b)) e (omega arith)
]

chord : (u : ℕ) → u ≤ 3 * 2 ^ 31 → (u + 2 ^ 31 + 2 ^ 32) * (u + 2 ^ 31 + 2 ^ 32) ≤ 9 * 2 ^ 31 * (u + 2 ^ 31)
chord u h = omega (arith, mul-le-mul_left u h)

chord_at : (v : ℕ) → 2 ^ 31 ≤ v → v ≤ 2 ^ 33 → (v + 2 ^ 32) * (v + 2 ^ 32) ≤ 9 * 2 ^ 31 * v
chord_at v a b = let e : v - 2 ^ 31 + 2 ^ 31 ≡ v = omega arith in subst (λ (y : ℕ). (y + 2 ^ 32) * (y + 2 ^ 32) ≤ 9 * 2 ^ 31 * y) e (chord (v - 2 ^ 31) (omega arith))

module _ (w v n : ℕ) (word : 2 ^ 62 ≤ w) (low : v * 2 ^ 31 ≤ w) (high : w < (v + 1) * 2 ^ 31) (small : n < 2 ^ 33) where
  between : 3 * n ≤ v + 2 ^ 32 → v + 2 ^ 32 ≤ 3 * n + 2 → (v + 2 ^ 32) * (v + 2 ^ 32) ≤ 9 * 2 ^ 31 * v → 4 * v * 2 ^ 32 ≤ (v + 2 ^ 32) * (v + 2 ^ 32) → Near 1 8 (n * n) w
  between m l up down =
      let p : 3 * n * (3 * n) ≤ (v + 2 ^ 32) * (v + 2 ^ 32) = mul-le-mul m m in
      let q : (v + 2 ^ 32) * (v + 2 ^ 32) ≤ (3 * n + 2) * (3 * n + 2) = mul-le-mul l l in
      let x : 9 * (n * n) ≤ 9 * w = omega arith in
      let y : 8 * w ≤ 9 * (n * n) + 12 * n + 4 + 2 ^ 34 = omega arith in
      record { above = omega arith; below = omega arith }

-- a third of w / 2 ^ 31 + 2 ^ 32
abbrev pub guessed : ℕ → ℕ
guessed w = (w / 2 ^ 31 + 2 ^ 32) / 3

pub guessed_square : (w : ℕ) → Word w → Near 1 8 (guessed w * guessed w) w
guessed_square w h =
    let v = w / 2 ^ 31 in
    let a = h.least in
    let b = h.most in
    between w v (guessed w) a (omega arith) (omega arith) (omega arith) (omega arith) (omega arith) (chord_at v (omega arith) (omega arith)) (mean v (2 ^ 32))
