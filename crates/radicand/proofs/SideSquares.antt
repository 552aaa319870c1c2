-- The squares of the sides in units of 2 ^ -56: a near one is whole, and a far one the only one that is cut.
use Rattle.std.proofs.Common.{◌≡◌, ℕ, ◌+◌, ◌-◌, ◌*◌, ◌^◌, ◌<◌, ◌≤◌, Bool, false, sym, ap, ◌∙◌, subst, mul-le-mul_right, mul-le-mul, mul-le-mul_left, mul-pos, lt_of_not-le, le_of_mul-le-mul_right, arith, pow-add}
use Rattle.exact.proofs.Squares.{four_two, four_pos, two_le}
use Rattle.exact.proofs.Ulps.{four_is}
use Rattle.radicand.specs.Sides.{head_scaled, denominator}
use Rattle.radicand.specs.Truncation.{Truncates}
use Rattle.radicand.proofs.Scales.{scale}
use Rattle.radicand.proofs.Truncations.{with_whole, same_fraction, exact, nothing_cut}

pub square_bound : (n : ℕ) → n < 2 ^ 53 → n * n < 2 ^ 106
square_bound n h = let a : n ≤ 2 ^ 53 - 1 = omega arith in omega (arith, mul-le-mul a a)

-- a near square over 4 ^ d is not cut
pub near_whole : (n d u v : ℕ) (cut : Bool) → d ≤ 28 → v ≡ n * n * 2 ^ 56 → Truncates u cut v (2 ^ (2 * d)) → u * 4 ^ d ≡ n * n * 2 ^ 56
near_whole n d u v cut h s t =
    let p : 2 ^ 56 ≡ 2 ^ (56 - 2 * d) * 2 ^ (2 * d) = ap (λ (x : ℕ). 2 ^ x) {x = 56} {y = 56 - 2 * d + 2 * d} (omega arith) ∙ pow-add 2 (56 - 2 * d) (2 * d) in
    let e : v ≡ n * n * 2 ^ (56 - 2 * d) * 2 ^ (2 * d) = omega (arith, s, ap (λ (x : ℕ). n * n * x) p) in
    let i : u ≡ n * n * 2 ^ (56 - 2 * d) = exact u cut _ (2 ^ (2 * d)) (subst (λ (x : ℕ). Truncates u cut x (2 ^ (2 * d))) e t) in
    ap (λ (x : ℕ). u * x) (four_is d) ∙ ap (λ (x : ℕ). x * 2 ^ (2 * d)) i ∙ sym e ∙ s

-- what is left over a power of four is no larger
at_most : (u d v : ℕ) → u * 4 ^ d ≡ v → u ≤ v
at_most u d v e = omega (arith, e, mul-le-mul_left u (four_pos d))

-- the sum of the squares of near sides
pub near_bound : (m n d a u : ℕ) → m < 2 ^ 53 → n < 2 ^ 53 → a ≡ m * m * 2 ^ 56 → u * 4 ^ d ≡ n * n * 2 ^ 56 → a + u < 2 ^ 163
near_bound m n d a u f g A U = omega (arith, A, square_bound m f, square_bound n g, at_most u d _ U)

-- what a cut leaves is no larger either
pub cut_at_most : (t v m : ℕ) (cut : Bool) → Truncates t cut v m → t ≤ v
cut_at_most t v m cut h = let p : 1 ≤ m = omega (arith, h.short) in omega (arith, h.whole, mul-le-mul_left t p)

-- the words hold any sum of three squares at 31 places
pub sum_held : (w p : ℕ) → w < 2 ^ 164 → p ≤ 31 → w < 2 ^ 130 * 2 ^ (114 - 2 * p)
sum_held w p h P = omega (arith, two_le 52 (114 - 2 * p) (omega arith))

-- the difference of squares: u is the square of the leg in units, and w what it leaves
module _ (m n d u w : ℕ) (U : u * 4 ^ d ≡ n * n * 2 ^ 56) (L : n < m * 2 ^ d) where
  shorter : n * n ≤ m * m * 4 ^ d
  shorter =
      let a : n ≤ m * 2 ^ d = omega arith in
      omega (arith, mul-le-mul a a, ap (λ (x : ℕ). m * m * x) (four_two d))

  pub no_larger : u ≤ m * m * 2 ^ 56
  no_larger = le_of_mul-le-mul_right {k = 4 ^ d} (omega (arith, U, shorter)) (four_pos d)

  pub leg_whole : w + u ≡ m * m * 2 ^ 56 → w * 4 ^ d ≡ (m * m * 4 ^ d - n * n) * 2 ^ 56
  leg_whole e = omega (arith, U, shorter, ap (λ (x : ℕ). x * 4 ^ d) e)

-- where the words hold the difference of squares, the limbs are not too large either
pub leg_held : (w x d p : ℕ) → p ≤ 57 → w * 4 ^ d ≡ x * 2 ^ 56 → head_scaled x p < 2 ^ 130 * denominator d → w < 2 ^ 130 * 2 ^ (114 - 2 * p)
unfolding head_scaled denominator
leg_held w x d p P e h =
    let s = 4 ^ (23 + p) in
    lt_of_not-le (λ (g : 2 ^ 130 * 2 ^ (114 - 2 * p) ≤ w).
    omega (arith, mul-le-mul_right (4 ^ d * s) g, ap (λ (y : ℕ). y * s) e, ap (λ (y : ℕ). 4 ^ d * y) (scale p P), pow-add 4 52 d, h))

-- a far square added to a whole number of units
module _ (m n d k e : ℕ) where
  abbrev squares : ℕ → ℕ
  squares f = m * m * f + n * n * 4 ^ e + k * k * 4 ^ d

  pub with_far : (a t v w : ℕ) (cut same_cut : Bool) → a * 4 ^ d ≡ (m * m * 4 ^ d + n * n) * 2 ^ 56 → v ≡ k * k * 2 ^ 56 → w ≡ a + t → same_cut ≡ cut → Truncates t cut v (4 ^ e) → Truncates w same_cut (squares (4 ^ (d + e)) * 2 ^ 56) (4 ^ (d + e))
  with_far a t v w cut same_cut A V W C T =
      let f : 4 ^ (d + e) ≡ 4 ^ d * 4 ^ e = pow-add 4 d e in
      let same : (a * 4 ^ e + v) * (4 ^ d * 4 ^ e) ≡ squares (4 ^ d * 4 ^ e) * 2 ^ 56 * 4 ^ e = omega (arith, ap (λ (y : ℕ). y * (4 ^ e * 4 ^ e)) A, ap (λ (y : ℕ). y * (4 ^ d * 4 ^ e)) V) in
      let far = same_fraction (a + t) cut (a * 4 ^ e + v) (4 ^ e) (squares (4 ^ d * 4 ^ e) * 2 ^ 56) (4 ^ d * 4 ^ e) (mul-pos (four_pos d) (four_pos e)) same (with_whole a t cut v (4 ^ e) T) in
      let P : ℕ → Bool → ℕ → Type 0 = λ x b y. Truncates x b (squares y * 2 ^ 56) y in
      subst (P w same_cut) (sym f) (subst (λ (b : Bool). P w b (4 ^ d * 4 ^ e)) (sym C) (subst (λ (x : ℕ). P x cut (4 ^ d * 4 ^ e)) (sym W) far))

-- a whole number of units as a fraction
pub whole_units : (w x d : ℕ) → w * 4 ^ d ≡ x * 2 ^ 56 → Truncates w false (x * 2 ^ 56) (4 ^ d)
whole_units w x d e = subst (λ (v : ℕ). Truncates w false v (4 ^ d)) e (nothing_cut w (4 ^ d) (four_pos d))
