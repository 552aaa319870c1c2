-- The exact radicands in two scales: by significands, over a power of four, and by the sides in units, over the square of one.
use Rattle.std.proofs.Common.{◌≡◌, ℕ, ◌+◌, ◌-◌, ◌*◌, ◌≤◌, sym, ap, ◌∙◌, subst, mul-le-mul, arith}

square_scale : (a X P Q : ℕ) → a * P ≡ X * Q → a * a * (P * P) ≡ X * X * (Q * Q)
square_scale a X P Q e =
    let z : a * P * (a * P) ≡ X * Q * (X * Q) = λ i. e i * e i in
    omega arith

-- U is one, and E, D are powers of two whose squares are the powers of four: F of E, c of the scale Q
module _ (m n E U Q F c X Y : ℕ) (f : F ≡ E * E) (g : c ≡ Q * Q) (p : m * E * U ≡ X * Q) (q : n * U ≡ Y * Q) where
  first : m * m * F * (U * U) ≡ X * X * c
  first = (λ i. m * m * f i * (U * U)) ∙ (let e : m * m * (E * E) * (U * U) ≡ X * X * (Q * Q) = omega (arith, square_scale (m * E) X U Q p) in e) ∙ (λ i. X * X * sym g i)

  second : n * n * (U * U) ≡ Y * Y * c
  second = square_scale n Y U Q q ∙ (λ i. Y * Y * sym g i)

  pub two_scale : (m * m * F + n * n) * (U * U) ≡ (X * X + Y * Y) * c
  two_scale = omega (arith, first, second)

  pub leg_scale : n ≤ m * E → Y ≤ X → (m * m * F - n * n) * (U * U) ≡ (X - Y) * (X + Y) * c
  leg_scale l o =
      let a : n * n ≤ m * m * F = subst (λ (z : ℕ). n * n ≤ m * m * z) (sym f) (omega (arith, mul-le-mul l l)) in
      let N = m * m * F - n * n in
      let b : N + n * n ≡ m * m * F = omega arith in
      let D = X - Y in
      let d : D + Y ≡ X = omega arith in
      let e : D * (X + Y) + Y * Y ≡ X * X = omega (arith, ap (λ (z : ℕ). z * X) d, ap (λ (z : ℕ). z * Y) d) in
      omega (arith, ap (λ (z : ℕ). z * (U * U)) b, ap (λ (z : ℕ). z * c) e, first, second)

module _ (m n k D E U Q F G H c X Y Z : ℕ) (f : F ≡ D * E * (D * E)) (g : G ≡ E * E) (h : H ≡ D * D) (i : c ≡ Q * Q) where
  pub three_scale : m * (D * E) * U ≡ X * Q → n * E * U ≡ Y * Q → k * D * U ≡ Z * Q → (m * m * F + n * n * G + k * k * H) * (U * U) ≡ (X * X + Y * Y + Z * Z) * c
  three_scale p q r = omega (arith, first m 0 (D * E) U Q F c X 0 f i p (omega arith), first n 0 E U Q G c Y 0 g i q (omega arith), first k 0 D U Q H c Z 0 h i r (omega arith))
