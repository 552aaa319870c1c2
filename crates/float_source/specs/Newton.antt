-- A Newton step for a square root squares the relative error and halves it: ((P + T) / 2) ^ 2 exceeds P * T by ((P - T) / 2) ^ 2.
use Rattle.std.specs.Prelude.{◌≡◌, ℕ, ◌+◌, ◌-◌, ◌*◌, ◌<◌, ◌≤◌}
use Rattle.std.proofs.Common.{sym, ap, subst, inl, inr, mul-pos, mul-le-mul, mul-le-mul_right, eq-zero-or-pos, arith}
use Rattle.floats.specs.Near.{Near}
use Rattle.floats.proofs.Nearness.{near_chain, near_product, near_unscale}

-- g is the distance of P and T, and at most n / d of T
record Gap (n d P T : ℕ) : Type 0 where
  gap : ℕ
  square : (P + T) * (P + T) ≡ 4 * P * T + gap * gap
  small : gap * d ≤ T * n

gap_of : (n d P T : ℕ) → Near n d P T → Gap n d P T
gap_of n d P T h = elim (eq-zero-or-pos (P - T)) [
  | inl z ↦
      let e : T - P + P ≡ T = omega arith in
      record {
        gap = T - P;
        square = subst (λ (y : ℕ). (P + y) * (P + y) ≡ 4 * P * y + (T - P) * (T - P)) e (omega arith);
        small = omega (arith, ap (λ (y : ℕ). y * d) e, h.below);
      }
  | inr p ↦
      let e : P - T + T ≡ P = omega arith in
      record {
        gap = P - T;
        square = subst (λ (y : ℕ). (y + T) * (y + T) ≡ 4 * y * T + (P - T) * (P - T)) e (omega arith);
        small = omega (arith, ap (λ (y : ℕ). y * d) e, h.above);
      }
]

-- the square of the mean is near the product, closer by the square
mean_near : (n d P T : ℕ) → T ≤ 2 * P → Near n d P T → Near (n * n) (2 * (d * d)) ((P + T) * (P + T)) (4 * P * T)
mean_near n d P T l h =
    let g = gap_of n d P T h in
    let q : g.gap * d * (g.gap * d) ≤ T * n * (T * n) = mul-le-mul g.small g.small in
    let r : T * T * (n * n) ≤ 2 * P * T * (n * n) = mul-le-mul_right (n * n) (mul-le-mul_right T l) in
    subst (λ (y : ℕ). Near (n * n) (2 * (d * d)) y (4 * P * T)) (sym g.square) (record { above = omega arith; below = omega arith })

-- the relative error that a step leaves of n / d, where the step itself is rounded by m / e
abbrev pub error_over : ℕ → ℕ → ℕ → ℕ → ℕ
error_over n d m e = (m * e + m * e + m * m) * (2 * (d * d)) + n * n * (e * e) + (m * e + m * e + m * m) * (n * n)

abbrev pub error_under : ℕ → ℕ → ℕ
error_under d e = e * e * (2 * (d * d))

-- y is near (x + T / x) / 2
pub newton : (n d m e x y T : ℕ) → 0 < x → T ≤ 2 * (x * x) → Near n d (x * x) T → Near m e (2 * y * x) (x * x + T) → Near (error_over n d m e) (error_under d e) (y * y) T
newton n d m e x y T X l h k =
    let a = near_product m e m e (2 * y * x) (x * x + T) (2 * y * x) (x * x + T) k k in
    let b = mean_near n d (x * x) T l h in
    let c = near_chain (m * e + m * e + m * m) (e * e) (n * n) (2 * (d * d)) (2 * y * x * (2 * y * x)) ((x * x + T) * (x * x + T)) (4 * (x * x) * T) a b in
    let p : 2 * y * x * (2 * y * x) ≡ y * y * (4 * (x * x)) = omega arith in
    let q : 4 * (x * x) * T ≡ T * (4 * (x * x)) = omega arith in
    near_unscale (error_over n d m e) (error_under d e) (y * y) T (4 * (x * x)) (omega (arith, mul-pos X X))
    (subst (λ (z : ℕ). Near (error_over n d m e) (error_under d e) z (T * (4 * (x * x)))) p (subst (λ (z : ℕ). Near (error_over n d m e) (error_under d e) (2 * y * x * (2 * y * x)) z) q c))
