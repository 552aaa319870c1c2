-- The square of a number in two parts of at most 27 bits: the square of the upper part and the middle product are split between the two limbs.
use Rattle.std.proofs.Common.{◌≡◌, ℕ, ◌+◌, ◌*◌, ◌/◌, ◌%◌, ◌^◌, ◌<◌, ap, arith}
use Rattle.radicand.specs.Limbs.{three}

module _ (m : ℕ) (M : m < 2 ^ 53) where
  abbrev a : ℕ
  a = m / 2 ^ 27

  abbrev b : ℕ
  b = m % 2 ^ 27

  abbrev low : ℕ
  low = b * b + a * b % 2 ^ 28 * 2 ^ 28 + a * a % 4 * 2 ^ 54

  abbrev high : ℕ
  high = a * a / 4 + a * b / 2 ^ 28 + low / 2 ^ 56

  pub square : three high (low % 2 ^ 56) 0 ≡ m * m * 2 ^ 56
  square =
      let e : m ≡ a * 2 ^ 27 + b = omega arith in
      let s : m * m ≡ (a * 2 ^ 27 + b) * (a * 2 ^ 27 + b) = ap (λ (x : ℕ). x * x) e in
      omega (arith, s)
