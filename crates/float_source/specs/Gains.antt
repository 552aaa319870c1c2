-- What the four steps gain: the relative error of the square goes from 1 / 8 to 1 / 120, 2 ^ -14, 2 ^ -28 and 24 / 2 ^ 54, where roundings are what is left.
use Rattle.std.specs.Prelude.{ℕ, ◌+◌, ◌-◌, ◌*◌, ◌^◌, ◌<◌, ◌≤◌}
use Rattle.std.proofs.Common.{le_trans, mul-pos, mul-le-mul, mul-le-mul_left, mul-le-mul_right, lt_of_mul-lt-mul_right, le_of_mul-le-mul_right, arith, lit<, lit≤}
use Rattle.exact.proofs.Squares.{le_of_squares, le_unless}
use Rattle.floats.specs.Near.{Near}
use Rattle.floats.proofs.Nearness.{near_chain, near_product, near_scale, near_weaken, near_sum}
use Rattle.sources.specs.Source.{Word, WordRoot, Within}
use Rattle.float_source.specs.Newton.{newton, error_over, error_under}

-- y is (x + T / x) / 2 up to five roundings
abbrev pub Step : ℕ → ℕ → ℕ → Type 0
Step x y T = Near 23 (2 ^ 55) (2 * y * x) (x * x + T)

-- what a step makes of an error n / d
abbrev pub Gain : ℕ → ℕ → ℕ → ℕ → Type 0
Gain n d m e = (x y T : ℕ) → 0 < x → T ≤ 2 * (x * x) → Near n d (x * x) T → Step x y T → Near m e (y * y) T

gain : (n d m e : ℕ) → 0 < error_under d (2 ^ 55) → error_over n d 23 (2 ^ 55) * e ≤ m * error_under d (2 ^ 55) → Gain n d m e
gain n d m e D l x y T X t h k = near_weaken (error_over n d 23 (2 ^ 55)) (error_under d (2 ^ 55)) m e (y * y) T D l (newton n d 23 (2 ^ 55) x y T X t h k)

pub first_gain : Gain 1 8 1 120
first_gain = gain 1 8 1 120 (lit< tt) (lit≤ tt)

pub second_gain : Gain 1 120 1 (2 ^ 14)
second_gain = gain 1 120 1 (2 ^ 14) (lit< tt) (lit≤ tt)

pub third_gain : Gain 1 (2 ^ 14) 1 (2 ^ 28)
third_gain = gain 1 (2 ^ 14) 1 (2 ^ 28) (lit< tt) (lit≤ tt)

pub last_gain : Gain 1 (2 ^ 28) 24 (2 ^ 54)
last_gain = gain 1 (2 ^ 28) 24 (2 ^ 54) (lit< tt) (lit≤ tt)

-- The roundings of a step: P is near T / X, S is X + P rounded, and Y half of S rounded.
pub step_rounded : (X T P S Y : ℕ) → Near 7 (2 ^ 54) (P * X) T → Near 1 (2 ^ 53) S (X + P) → Near 1 (2 ^ 53) (2 * Y) S → Step X Y T
step_rounded X T P S Y p s y =
    let a : Near 7 (2 ^ 54) (X * X + P * X) (X * X + T) = near_sum 7 (2 ^ 54) (X * X) (X * X) (P * X) T (record { above = omega arith; below = omega arith }) p in
    let b : Near 1 (2 ^ 53) (S * X) (X * X + P * X) = let z = near_scale 1 (2 ^ 53) S (X + P) X s in record { above = omega (arith, z.above); below = omega (arith, z.below) } in
    let c : Near 1 (2 ^ 53) (2 * Y * X) (S * X) = near_scale 1 (2 ^ 53) (2 * Y) S X y in
    near_weaken _ _ 23 (2 ^ 55) (2 * Y * X) (X * X + T) (lit< tt) (lit≤ tt)
    (near_chain _ _ 7 (2 ^ 54) (2 * Y * X) (X * X + P * X) (X * X + T) (near_chain 1 (2 ^ 53) 1 (2 ^ 53) (2 * Y * X) (S * X) (X * X + P * X) c b) a)

-- How large a number is whose square is within a quarter of w, in units U.
pub record Ranged (U x : ℕ) : Type 0 where
  pub least : 2 ^ 30 * U ≤ x
  pub most : x ≤ 2 ^ 33 * U

pub ranged : (n d x w U : ℕ) → 0 < d → n * 4 ≤ d → Word w → Near n d (x * x) (w * (U * U)) → Ranged U x
ranged n d x w U D q word h =
    let k = near_weaken n d 1 4 (x * x) (w * (U * U)) D (omega arith) h in
    let a = mul-le-mul_right (U * U) word.least in
    let b = mul-le-mul_right (U * U) word.most in
    record {
      least = le_of_squares (2 ^ 30 * U) x (omega (arith, k.below));
      most = le_of_squares x (2 ^ 33 * U) (omega (arith, k.above));
    }

pub double_square : (n d x T : ℕ) → 0 < d → n * 4 ≤ d → Near n d (x * x) T → T ≤ 2 * (x * x)
double_square n d x T D q h = let k = near_weaken n d 1 4 (x * x) T D (omega arith) h in omega (arith, k.below)

-- y times 2 ^ 22, rounded to z
pub scaled_square : (y z T : ℕ) → Near 24 (2 ^ 54) (y * y) T → Near 1 (2 ^ 53) z (y * 2 ^ 22) → Near 29 (2 ^ 54) (z * z) (T * 2 ^ 44)
scaled_square y z T h k =
    let a : Near (1 * 2 ^ 53 + 1 * 2 ^ 53 + 1 * 1) (2 ^ 53 * 2 ^ 53) (z * z) (y * 2 ^ 22 * (y * 2 ^ 22)) = near_product 1 (2 ^ 53) 1 (2 ^ 53) z (y * 2 ^ 22) z (y * 2 ^ 22) k k in
    let b : Near 24 (2 ^ 54) (y * 2 ^ 22 * (y * 2 ^ 22)) (T * 2 ^ 44) = let s = near_scale 24 (2 ^ 54) (y * y) T (2 ^ 44) h in record { above = omega (arith, s.above); below = omega (arith, s.below) } in
    near_weaken _ _ 29 (2 ^ 54) (z * z) (T * 2 ^ 44) (lit< tt) (lit≤ tt) (near_chain _ _ 24 (2 ^ 54) (z * z) (y * 2 ^ 22 * (y * 2 ^ 22)) (T * 2 ^ 44) a b)

-- g is the whole part of z / U, whose square is near w * 2 ^ 44: then it is near the word's root s.
module _ (z w U g s : ℕ) (P : 0 < U) (h : Near 29 (2 ^ 54) (z * z) (w * (U * U) * 2 ^ 44)) (lo : g * U ≤ z) (hi : z < (g + 1) * U) (root : WordRoot w s) (small : s < 2 ^ 54) (big : 2 ^ 53 ≤ s) where
  not_above : s + 16 ≤ g → ⊥
  not_above f =
      let a : (s + 16) * U ≤ z = le_trans (mul-le-mul_right U f) lo in
      let b : (s + 16) * U * ((s + 16) * U) ≤ z * z = mul-le-mul a a in
      let c : w * 2 ^ 44 * (U * U) + U * U ≤ (s + 1) * (s + 1) * (U * U) = omega (arith, mul-le-mul_right (U * U) root.high) in
      let d : (s + 16) * (s + 16) * 2 ^ 54 * (U * U) < (s + 1) * (s + 1) * (2 ^ 54 + 29) * (U * U) = omega (arith, h.above, mul-pos P P) in
      let e : (s + 16) * (s + 16) * 2 ^ 54 < (s + 1) * (s + 1) * (2 ^ 54 + 29) = lt_of_mul-lt-mul_right (U * U) d in
      omega (arith, mul-le-mul_left s small)

  not_below : g + 16 ≤ s → ⊥
  not_below f =
      let a : z ≤ (g + 1) * U = omega arith in
      let b : z * z ≤ (g + 1) * U * ((g + 1) * U) = mul-le-mul a a in
      let c : s * s * (U * U) ≤ w * 2 ^ 44 * (U * U) = mul-le-mul_right (U * U) root.low in
      let d : s * s * (2 ^ 54 - 29) * (U * U) ≤ (g + 1) * (g + 1) * 2 ^ 54 * (U * U) = omega (arith, h.below) in
      let e : s * s * (2 ^ 54 - 29) ≤ (g + 1) * (g + 1) * 2 ^ 54 = le_of_mul-le-mul_right {k = U * U} d (mul-pos P P) in
      let x : (g + 16) * (g + 16) ≤ s * s = mul-le-mul f f in
      let y : (g + 1) * (g + 1) ≤ (g + 1) * 2 ^ 54 = mul-le-mul_left (g + 1) (omega arith) in
      omega arith

  pub close : Within 15 s g
  close = record { above = le_unless g (s + 15) (λ f. not_above (omega arith)); below = le_unless s (g + 15) (λ f. not_below (omega arith)) }
