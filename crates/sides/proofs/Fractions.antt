-- One fraction written in two ways, x / C and n / D: what words stand for and how near a root is do not depend on the way.
use mathlib.Core.Path.{◌≡◌, ap, ◌∙◌}
use Prim.Native.Nat.{ℕ, ◌+◌, ◌*◌, ◌/◌, ◌^◌, ◌≤◌, ◌<◌}
use native.Mathlib.Nat.{le_of_mul-le-mul_right, lt_of_mul-lt-mul_right, mul-le-mul_right, mul-le-mul, mul-lt-mul_of_pos_right, div-add-mod', mod-lt}
use native.Mathlib.Omega.{arith}
use lib.Pow.{pow-add}
use Rattle.exact.specs.Root.{isqrt}
use Rattle.exact.proofs.Roots.{isqrt_is}
use Rattle.exact.proofs.Squares.{four_pos, lt_of_squares}
use Rattle.head.specs.Bound.{FloorRootOf, NearRoot}

module _ (x C n D : ℕ) (E : x * D ≡ n * C) (P : 0 < C) (Q : 0 < D) where
  -- both over the same scale A
  pub scaled_floor : (A t : ℕ) → FloorRootOf (n * A) D t → FloorRootOf (x * A) C t
  scaled_floor A t f = record {
    low = le_of_mul-le-mul_right {k = D} (omega (arith, mul-le-mul_right C f.low, ap (λ (z : ℕ). z * A) E)) Q;
    high = lt_of_mul-lt-mul_right D (omega (arith, mul-lt-mul_of_pos_right f.high P, ap (λ (z : ℕ). z * A) E));
  }

pub near_root_for : (x c n d word places : ℕ) → x * 4 ^ d ≡ n * 4 ^ c → NearRoot x c word places → NearRoot n d word places
near_root_for x c n d word places e near s t S T = near s t S (scaled_floor x (4 ^ c) n (4 ^ d) e (four_pos c) (four_pos d) (4 ^ (22 + places)) t T)

-- the floor root of a fraction
pub floor_of : (b c : ℕ) → 0 < c → FloorRootOf b c (isqrt (b / c))
floor_of b c p =
    let q = b / c in
    let f = isqrt_is q in
    let t = isqrt q in
    let h : q + 1 ≤ (t + 1) * (t + 1) = omega (arith, f.high) in
    record {
      low = omega (arith, mul-le-mul_right c f.low, div-add-mod' b c);
      high = omega (arith, mul-le-mul_right c h, div-add-mod' b c, mod-lt b p);
    }

-- near the root of a word, the radicand fits the words
pub held : (x c word places : ℕ) → word < 2 ^ 64 → NearRoot x c word places → x * 4 ^ (23 + places) < 2 ^ 130 * 4 ^ c
held x c word places w near =
    let A = 4 ^ (22 + places) in
    let s = isqrt (word * 2 ^ 44) in
    let t = isqrt (x * A / 4 ^ c) in
    let S = isqrt_is (word * 2 ^ 44) in
    let T = floor_of (x * A) (4 ^ c) (four_pos c) in
    let i : s < 2 ^ 54 = lt_of_squares s (2 ^ 54) (omega (arith, S.low)) in
    let j : t + 1 ≤ 2 ^ 55 = omega (arith, (near s t S T).above) in
    let k : (t + 1) * (t + 1) * 4 ^ c ≤ 2 ^ 110 * 4 ^ c = mul-le-mul_right (4 ^ c) (mul-le-mul j j) in
    let f : 4 ^ (23 + places) ≡ 4 * A = ap (λ (y : ℕ). 4 ^ y) {x = 23 + places} {y = 1 + (22 + places)} (omega arith) ∙ pow-add 4 1 (22 + places) in
    omega (arith, T.high, k, ap (λ (y : ℕ). x * y) f, four_pos c)
