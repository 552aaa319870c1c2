-- The heads of sides: the float radicand is near the exact one, so their roots are near.
use Rattle.std.proofs.Common.{◌≡◌, ℕ, ◌+◌, ◌-◌, ◌*◌, ◌^◌, ◌<◌, ◌≤◌, ap, ◌∙◌, subst, le_of_lt, mul-le-mul_right, mul-le-mul, lt_of_mul-lt-mul_right, mul-le-mul_left, mul-pos, arith, lit<, lit≤, pow_pos, pow_mono}
use native.Mathlib.Nat.{eq_of_mul-eq-mul_right}
use lib.Ieee.{Float}
use Rattle.floats.specs.Units.{unit}
use Rattle.floats.specs.Near.{Near}
use Rattle.floats.proofs.Values.{unit_positive}
use Rattle.floats.proofs.Nearness.{near_scale, near_weaken, near_left_out}
use Rattle.head.specs.Side.{Full, scaled_side}
use Rattle.head.specs.Squares.{two_radicand, three_radicand, leg_radicand}
use Rattle.head.specs.Head.{Heads, Ordinary}
use Rattle.head.specs.Bound.{two_exact, three_exact, leg_exact, NearRoot, NearWithoutThird}
use Rattle.head.proofs.Powers.{four_square, four_scale, four_scales, four_both}
use Rattle.head.proofs.Sides.{step, span, side_holds, side_low, side_high, side_one}
use Rattle.head.proofs.Heads.{cross}
use Rattle.head.proofs.FloatSums.{Squared, square, Sum, two_sum, three_sum, Difference, leg_difference}
use Rattle.head.proofs.Scales.{two_scale, three_scale, leg_scale}
use Rattle.head.proofs.NearRoots.{near_root}

-- Sides in units.

squared_side : (m d : ℕ) → Full m → d ≤ 28 → Squared (scaled_side m d) (m * step d)
squared_side m d f l =
    square (scaled_side m d) (m * step d) (side_holds m d f l)
    (side_low m (step d) (2 ^ d) f (span d l) (pow_mono {i = d} {j = 28} l))
    (side_high m (step d) (2 ^ d) f (span d l) (pow_pos d))

largest_one : (m : ℕ) → Full m → unit ≤ m * step 0
largest_one m f = side_one m (step 0) (2 ^ 0) f (span 0 (lit≤ tt)) (lit≤ tt)

sum_ordinary : (h : Float) (error exact : ℕ) → Sum h error exact → Ordinary h
sum_ordinary h error exact s = record { count = s.count; holds = s.holds; least = omega (arith, s.least); most = omega (arith, s.most) }

-- Two sides, in the head of two or with a third that is left out.

module _ (m n d : ℕ) (f : Full m) (g : Full n) (l : d ≤ 28) where
  pub two_sides_sum : Sum (two_radicand m n d) 5 (m * step 0 * (m * step 0) + n * step d * (n * step d))
  two_sides_sum = two_sum (scaled_side m 0) (scaled_side n d) (m * step 0) (n * step d) (squared_side m 0 f (lit≤ tt)) (squared_side n d g l) (largest_one m f)

  pub two_ordinary : Ordinary (two_radicand m n d)
  two_ordinary = sum_ordinary _ _ _ two_sides_sum

  module _ (w a : ℕ) (h : Heads (two_radicand m n d) w a) where
    abbrev R : ℕ
    R = two_sides_sum.count

    crossed : R * 4 ^ a ≡ w * unit
    crossed = cross (two_radicand m n d) R unit w (4 ^ a) two_sides_sum.holds h.value

    abbrev X : ℕ
    X = m * step 0 * (m * step 0) + n * step d * (n * step d)

    pub two_near : NearRoot (two_exact m n d) (52 + d) w a
    two_near =
        near_root unit R X (two_exact m n d) (52 + d) w a unit_positive crossed
        (two_scale m n (2 ^ d) unit (2 ^ 52 * 2 ^ d) (4 ^ d) (4 ^ (52 + d)) (m * step 0) (n * step d) (four_square d) (four_scale d)
        (omega (arith, ap (λ (u : ℕ). m * 2 ^ d * u) (span 0 (lit≤ tt)))) (omega (arith, ap (λ (u : ℕ). n * u) (span d l))))
        (near_weaken 5 (2 ^ 54) 7 (2 ^ 54) (R * unit) X (lit< tt) (lit≤ tt) two_sides_sum.near)
        h.least h.most

    -- the third side, of k: its square is at most 2 ^ -54 of the largest side's, V units to the last bit of m and E for 2 ^ e
    without_third : (k V E x : ℕ) → Near 5 (2 ^ 54) (R * unit) x → m * V * (m * V) ≤ x → k * 2 ^ 27 < m * E → Near 7 (2 ^ 54) (R * E * (unit * E)) (x * (E * E) + k * V * (k * V))
    without_third k V E x h o far =
        let b : k * 2 ^ 27 * (k * 2 ^ 27) ≤ m * E * (m * E) = mul-le-mul (le_of_lt far) (le_of_lt far) in
        let c : k * V * (k * V) * 2 ^ 54 ≤ x * (E * E) = omega (arith, mul-le-mul_right (V * V) b, mul-le-mul_right (E * E) o) in
        let z = near_scale 5 (2 ^ 54) (R * unit) x (E * E) h in
        let y : Near 5 (2 ^ 54) (R * E * (unit * E)) (x * (E * E)) = record { above = omega (arith, z.above); below = omega (arith, z.below) } in
        near_weaken 6 (2 ^ 54) 7 (2 ^ 54) (R * E * (unit * E)) (x * (E * E) + k * V * (k * V)) (lit< tt) (lit≤ tt) (near_left_out 5 (2 ^ 54) (R * E * (unit * E)) (x * (E * E)) (k * V * (k * V)) c y)

    pub two_far : NearWithoutThird m n d w a
    two_far k e far =
        let D = 2 ^ d in
        let E = 2 ^ e in
        let V = step 0 in
        let Y = m * V * E * (m * V * E) + n * step d * E * (n * step d * E) + k * V * (k * V) in
        let same : X * (E * E) + k * V * (k * V) ≡ Y = omega arith in
        near_root (unit * E) (R * E) Y (three_exact m n d k e) (52 + d + e) w a (mul-pos unit_positive (pow_pos e)) (omega (arith, ap (λ (z : ℕ). z * E) crossed))
        (three_scale m n k D E (unit * E) (2 ^ 52 * (D * E)) (4 ^ (d + e)) (4 ^ e) (4 ^ d) (4 ^ (52 + d + e)) (m * V * E) (n * step d * E) (k * V) (four_both d e) (four_square e) (four_square d) (four_scales d e)
        (omega (arith, ap (λ (z : ℕ). m * (D * E) * (z * E)) (span 0 (lit≤ tt)))) (omega (arith, ap (λ (z : ℕ). n * E * (z * E)) (span d l))) (omega (arith, ap (λ (z : ℕ). k * D * (z * E)) (span 0 (lit≤ tt)))))
        (subst (Near 7 (2 ^ 54) (R * E * (unit * E))) same (without_third k V E X two_sides_sum.near (omega arith) far))
        h.least h.most

-- Three sides.

module _ (m n d k e : ℕ) (f : Full m) (g : Full n) (l : d ≤ 28) (j : Full k) (o : e ≤ 28) where
  pub three_sides_sum : Sum (three_radicand m n d k e) 7 (m * step 0 * (m * step 0) + n * step d * (n * step d) + k * step e * (k * step e))
  three_sides_sum =
      three_sum (scaled_side m 0) (scaled_side n d) (m * step 0) (n * step d) (squared_side m 0 f (lit≤ tt)) (squared_side n d g l) (largest_one m f) (scaled_side k e) (k * step e) (squared_side k e j o)

  pub three_ordinary : Ordinary (three_radicand m n d k e)
  three_ordinary = sum_ordinary _ _ _ three_sides_sum

  pub three_near : (w a : ℕ) → Heads (three_radicand m n d k e) w a → NearRoot (three_exact m n d k e) (52 + d + e) w a
  three_near w a h =
      let D = 2 ^ d in
      let E = 2 ^ e in
      let s = three_sides_sum in
      near_root unit s.count (m * step 0 * (m * step 0) + n * step d * (n * step d) + k * step e * (k * step e)) (three_exact m n d k e) (52 + d + e) w a unit_positive
      (cross (three_radicand m n d k e) s.count unit w (4 ^ a) s.holds h.value)
      (three_scale m n k D E unit (2 ^ 52 * (D * E)) (4 ^ (d + e)) (4 ^ e) (4 ^ d) (4 ^ (52 + d + e)) (m * step 0) (n * step d) (k * step e) (four_both d e) (four_square e) (four_square d) (four_scales d e)
      (omega (arith, ap (λ (u : ℕ). m * (D * E) * u) (span 0 (lit≤ tt)))) (omega (arith, ap (λ (u : ℕ). n * E * u) (span d l))) (omega (arith, ap (λ (u : ℕ). k * D * u) (span e o))))
      s.near
      h.least h.most

-- A leg.

pub steps : (V W E : ℕ) → V * (2 ^ 52 * 1) ≡ unit → W * (2 ^ 52 * E) ≡ unit → V ≡ W * E
steps V W E p q = eq_of_mul-eq-mul_right (2 ^ 52) (lit< tt) V (W * E) (omega arith)

-- how far the sides are apart: by one of the lower side's last places at least
pub record Apart (m n V W : ℕ) : Type 0 where
  pub ordered : n * W ≤ m * V
  pub far : unit ≤ (m * V - n * W) * 2 ^ 80

apart : (m n V W E : ℕ) → E ≤ 2 ^ 28 → V * (2 ^ 52 * 1) ≡ unit → W * (2 ^ 52 * E) ≡ unit → n < m * E → Apart m n V W
apart m n V W E l p q o =
    let e : m * V ≡ m * E * W = ap (λ (z : ℕ). m * z) (steps V W E p q) ∙ omega arith in
    let a : n * W + W ≤ m * V = omega (arith, mul-le-mul_right W o) in
    record { ordered = omega arith; far = omega (arith, mul-le-mul_left (W * 2 ^ 52) l) }

-- sides of G and H units, and R units near the difference of their squares
difference_below : (G H R : ℕ) → H ≤ G → G ≤ 2 * unit → Near 7 (2 ^ 54) (R * unit) ((G - H) * (G + H)) → R < 16 * unit
difference_below G H R o hi near =
    let D = G - H in
    let d : D + H ≡ G = omega arith in
    let square : D * (G + H) ≤ G * G = omega (arith, ap (λ (z : ℕ). z * G) d, ap (λ (z : ℕ). z * H) d) in
    let most : G * G ≤ 2 * unit * (2 * unit) = mul-le-mul hi hi in
    lt_of_mul-lt-mul_right unit (omega (arith, near.above, square, most, mul-pos unit_positive unit_positive))

module _ (m n d : ℕ) (f : Full m) (g : Full n) (l : d ≤ 28) (o : n < m * 2 ^ d) where
  between : Apart m n (step 0) (step d)
  between = apart m n (step 0) (step d) (2 ^ d) (pow_mono {i = d} {j = 28} l) (span 0 (lit≤ tt)) (span d l) o

  pub leg_sides_difference : Difference (leg_radicand m n d) ((m * step 0 - n * step d) * (m * step 0 + n * step d))
  leg_sides_difference =
      leg_difference (scaled_side m 0) (scaled_side n d) (m * step 0) (n * step d) (side_holds m 0 f (lit≤ tt)) (side_holds n d g l)
      (largest_one m f)
      (side_high m (step 0) (2 ^ 0) f (span 0 (lit≤ tt)) (lit< tt))
      between.ordered between.far

  -- the hypotenuse is below 2, so the difference is below 4, and stays below 16 when rounded
  pub leg_below : leg_sides_difference.count < 16 * unit
  leg_below =
      difference_below (m * step 0) (n * step d) leg_sides_difference.count between.ordered
      (side_high m (step 0) (2 ^ 0) f (span 0 (lit≤ tt)) (lit< tt)) leg_sides_difference.near

  pub leg_ordinary : Ordinary (leg_radicand m n d)
  leg_ordinary = let s = leg_sides_difference in record { count = s.count; holds = s.holds; least = s.least; most = omega (arith, s.most) }

  pub leg_near : (w a : ℕ) → Heads (leg_radicand m n d) w a → NearRoot (leg_exact m n d) (52 + d) w a
  leg_near w a h =
      let s = leg_sides_difference in
      near_root unit s.count ((m * step 0 - n * step d) * (m * step 0 + n * step d)) (leg_exact m n d) (52 + d) w a unit_positive
      (cross (leg_radicand m n d) s.count unit w (4 ^ a) s.holds h.value)
      (leg_scale m n (2 ^ d) unit (2 ^ 52 * 2 ^ d) (4 ^ d) (4 ^ (52 + d)) (m * step 0) (n * step d) (four_square d) (four_scale d)
      (omega (arith, ap (λ (u : ℕ). m * 2 ^ d * u) (span 0 (lit≤ tt)))) (omega (arith, ap (λ (u : ℕ). n * u) (span d l)))
      (le_of_lt o) between.ordered)
      s.near
      h.least h.most
