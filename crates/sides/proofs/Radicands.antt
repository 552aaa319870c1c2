-- The radicand by significands, x / 4 ^ (52 + d), is the radicand in units, n / 4 ^ (b - 1), where b are the bits of the largest side.
use mathlib.Core.Path.{◌≡◌, sym, ap, ◌∙◌, subst}
use Prim.Native.Nat.{ℕ, ◌+◌, ◌-◌, ◌*◌, ◌^◌, ◌≤◌}
use native.Mathlib.Nat.{eq_of_mul-eq-mul_right, mul-le-mul}
use native.Mathlib.Omega.{arith}
use lib.Pow.{pow-add}
use Rattle.exact.proofs.Squares.{four_two}

-- the square of a side
square : (u m b : ℕ) → m * 2 ^ b ≡ u * 2 ^ 53 → m * m * 4 ^ b ≡ u * u * 4 ^ 53
square u m b e =
    let s : m * 2 ^ b * (m * 2 ^ b) ≡ u * 2 ^ 53 * (u * 2 ^ 53) = λ i. e i * e i in
    omega (arith, ap (λ (x : ℕ). m * m * x) (four_two b), s)

-- in the scale of the largest side, whose b bits are d more
lowered_square : (u m b d c : ℕ) → m * 2 ^ b ≡ u * 2 ^ 53 → c ≡ b + d → m * m * 4 ^ c ≡ u * u * 4 ^ 53 * 4 ^ d
lowered_square u m b d c e f =
    let p : 4 ^ c ≡ 4 ^ b * 4 ^ d = ap (λ (x : ℕ). 4 ^ x) f ∙ pow-add 4 b d in
    omega (arith, ap (λ (x : ℕ). m * m * x) p, ap (λ (x : ℕ). x * 4 ^ d) (square u m b e))

-- 4 ^ b and 4 ^ 53 from the powers below them
quarter : (x n b c : ℕ) → 1 ≤ b → x * 4 ^ b ≡ n * 4 ^ (53 + c) → x * 4 ^ (b - 1) ≡ n * 4 ^ (52 + c)
quarter x n b c h e =
    let p : 4 ^ b ≡ 4 * 4 ^ (b - 1) = ap (λ (y : ℕ). 4 ^ y) {x = b} {y = 1 + (b - 1)} (omega arith) ∙ pow-add 4 1 (b - 1) in
    let q : 4 ^ (53 + c) ≡ 4 * 4 ^ (52 + c) = ap (λ (y : ℕ). 4 ^ y) {x = 53 + c} {y = 1 + (52 + c)} (omega arith) ∙ pow-add 4 1 (52 + c) in
    eq_of_mul-eq-mul_right 4 (omega arith) (x * 4 ^ (b - 1)) (n * 4 ^ (52 + c)) (omega (arith, ap (λ (y : ℕ). x * y) p, ap (λ (y : ℕ). n * y) q, e))

-- the largest side v, and u, which lies d places below
module _ (v k b u m c d : ℕ) (V : k * 2 ^ b ≡ v * 2 ^ 53) (U : m * 2 ^ c ≡ u * 2 ^ 53) (D : b ≡ c + d) (some : 1 ≤ b) where
  first_d : k * k * 4 ^ d * 4 ^ b ≡ v * v * (4 ^ 53 * 4 ^ d)
  first_d = omega (arith, ap (λ (x : ℕ). x * 4 ^ d) (square v k b V))

  second_d : m * m * 4 ^ b ≡ u * u * (4 ^ 53 * 4 ^ d)
  second_d = omega (arith, lowered_square u m c d b U D)

  pub leg_units : u ≤ v → m ≤ k * 2 ^ d → (k * k * 4 ^ d - m * m) * 4 ^ (b - 1) ≡ (v * v - u * u) * 4 ^ (52 + d)
  leg_units l o =
      let i : m * m ≤ k * k * 4 ^ d = subst (λ (z : ℕ). m * m ≤ k * k * z) (sym (four_two d)) (omega (arith, mul-le-mul o o)) in
      let j : u * u ≤ v * v = mul-le-mul l l in
      let x = k * k * 4 ^ d - m * m in
      let n = v * v - u * u in
      let a : x + m * m ≡ k * k * 4 ^ d = omega arith in
      let c : n + u * u ≡ v * v = omega arith in
      quarter x n b d some
      (omega (arith, ap (λ (z : ℕ). z * 4 ^ b) a, ap (λ (z : ℕ). z * (4 ^ 53 * 4 ^ d)) c, first_d, second_d, ap (λ (z : ℕ). n * z) (pow-add 4 53 d)))

  -- and w, which lies e places below
  pub three_units : (w n f e : ℕ) → n * 2 ^ f ≡ w * 2 ^ 53 → b ≡ f + e
      → (k * k * 4 ^ (d + e) + m * m * 4 ^ e + n * n * 4 ^ d) * 4 ^ (b - 1) ≡ (v * v + (u * u + (w * w + 0))) * 4 ^ (52 + (d + e))
  three_units w n f e W E =
      let S = 4 ^ 53 * 4 ^ (d + e) in
      let p : 4 ^ (d + e) ≡ 4 ^ d * 4 ^ e = pow-add 4 d e in
      let a : k * k * 4 ^ (d + e) * 4 ^ b ≡ v * v * S = omega (arith, ap (λ (x : ℕ). x * 4 ^ (d + e)) (square v k b V)) in
      let h : m * m * 4 ^ e * 4 ^ b ≡ u * u * S = omega (arith, ap (λ (x : ℕ). x * 4 ^ e) second_d, ap (λ (x : ℕ). u * u * (4 ^ 53 * x)) p) in
      let g : n * n * 4 ^ d * 4 ^ b ≡ w * w * S = omega (arith, ap (λ (x : ℕ). x * 4 ^ d) (lowered_square w n f e b W E), ap (λ (x : ℕ). w * w * (4 ^ 53 * x)) p) in
      quarter (k * k * 4 ^ (d + e) + m * m * 4 ^ e + n * n * 4 ^ d) (v * v + (u * u + (w * w + 0))) b (d + e) some
      (omega (arith, a, h, g, ap (λ (x : ℕ). (v * v + (u * u + (w * w + 0))) * x) (pow-add 4 53 (d + e))))
