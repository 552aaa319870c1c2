-- One fraction written in two ways: what words stand for does not depend on the way.
use Rattle.std.proofs.Common.{◌≡◌, ℕ, ◌+◌, ◌*◌, ◌/◌, ◌%◌, ◌^◌, ◌<◌, sym, ap, ◌∙◌, div-add-mod', arith, pow-add}
use native.Mathlib.Nat.{eq_of_mul-eq-mul_right}
use lib.Ieee.Nearest.{div_same}
use Rattle.exact.proofs.Squares.{four_pos}
use Rattle.radicand.specs.declared.words.Radicand.{Radicand}
use Rattle.radicand.specs.Sides.{two_squares, three_squares, head_scaled, denominator}
use Rattle.radicand.specs.Stands.{Stands}

-- a number is divisible where its quotient times the divisor is the number
divisible : (v m : ℕ) → 0 < m → v % m ≡ 0 → v / m * m ≡ v
divisible v m p z = omega (arith, div-add-mod' v m, z)

no_rest : (v m q : ℕ) → 0 < m → v / m ≡ q → v ≡ q * m → v % m ≡ 0
no_rest v m q p e f = omega (arith, div-add-mod' v m, ap (λ (x : ℕ). x * m) e)

module _ (v m w l : ℕ) (M : 0 < m) (L : 0 < l) (e : v * l ≡ w * m) where
  rest_too : v % m ≡ 0 → w % l ≡ 0
  rest_too z =
      let q = v / m in
      let a : q * m ≡ v = divisible v m M z in
      let b : w * m ≡ q * l * m = omega (arith, sym e, ap (λ (x : ℕ). x * l) a) in
      no_rest w l q L (sym (div_same v m w l M L e)) (eq_of_mul-eq-mul_right m M w (q * l) b)

pub stands_for : (r : Radicand) (v m w l : ℕ) → 0 < l → v * l ≡ w * m → Stands r v m → Stands r w l
stands_for r v m w l L e s = record {
  positive = L;
  bits_short = s.bits_short;
  floor = sym (div_same v m w l s.positive L e) ∙ s.floor;
  is_cut = λ c z. s.is_cut c (rest_too w l v m L s.positive (sym e) z);
  not_cut = λ c. rest_too v m w l s.positive L e (s.not_cut c);
}

-- a third side of no length only moves the scale
pub without_third : (r : Radicand) (m n d k e places : ℕ) → k ≡ 0 → Stands r (head_scaled (two_squares m n d) places) (denominator d)
    → Stands r (head_scaled (three_squares m n d k e) places) (denominator (d + e))
unfolding head_scaled two_squares three_squares denominator
without_third r m n d k e places z s =
    let A = 4 ^ (23 + places) in
    let x = m * m * 4 ^ d + n * n in
    let y = m * m * 4 ^ (d + e) + n * n * 4 ^ e + k * k * 4 ^ d in
    let same : y ≡ x * 4 ^ e = omega (arith, ap (λ (w : ℕ). m * m * w) (pow-add 4 d e), ap (λ (w : ℕ). w * w * 4 ^ d) z) in
    let scale : 4 ^ (52 + (d + e)) ≡ 4 ^ (52 + d) * 4 ^ e = ap (λ (w : ℕ). 4 ^ w) {x = 52 + (d + e)} {y = 52 + d + e} (omega arith) ∙ pow-add 4 (52 + d) e in
    stands_for r (x * A) (4 ^ (52 + d)) (y * A) (4 ^ (52 + (d + e))) (four_pos (52 + (d + e)))
    (omega (arith, ap (λ (w : ℕ). x * A * w) scale, ap (λ (w : ℕ). w * A * 4 ^ (52 + d)) same)) s
