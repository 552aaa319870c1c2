-- A side below the largest one: how far its leading bit lies below, and its scaled float.
use mathlib.Core.Path.{◌≡◌, sym, ap, ◌∙◌, subst}
use mathlib.Core.Bool.{true, false}
use Prim.Native.Nat.{ℕ, ◌+◌, ◌-◌, ◌*◌, ◌^◌, ◌≤◌, ◌<◌}
use native.Mathlib.Nat.{le_of_mul-le-mul_right, lt_of_mul-lt-mul_right, mul-lt-mul_of_pos_right, eq_of_mul-eq-mul_right}
use native.Mathlib.Omega.{arith}
use lib.Pow.{pow-add, pow_pos, pow_mono}
use lib.Ieee.{binary64, size, round}
use lib.Ieee.Digits.{size-lt, size_reaches}
use lib.Ieee.Scale.{round_same}
use borrow.Author.Tests.{ltb-true, ltb-false}
use Rattle.exact.proofs.Squares.{le_unless, lt_unless, two_half}
use Rattle.head.specs.Side.{Full, scaled_side}
use Rattle.sides.specs.Order.{is_far}
use Rattle.sides.specs.HeadSum.{scaled}
use Rattle.sides.proofs.Sizes.{AtBits, at_bits_more, fewer_bits}

module _ (u m b : ℕ) (p : AtBits u m b) where
  pub magnitude_most : u < 2 ^ b
  magnitude_most = subst (λ (x : ℕ). u < 2 ^ x) (sym p.bits) (size-lt u)

  pub short : m < 2 ^ 53
  short = lt_of_mul-lt-mul_right (2 ^ b) (omega (arith, p.scale, mul-lt-mul_of_pos_right magnitude_most (pow_pos 53)))

  pub some_bits : 0 < u → 1 ≤ b
  some_bits h = lt_unless 0 b (λ (z : b ≤ 0). omega (arith, magnitude_most, pow_mono {i = b} {j = 0} z, h))

  pub full : 0 < u → Full m
  full h =
      let e : b ≡ size u = p.bits in
      let lo : 2 ^ (b - 1) ≤ u = size_reaches u (b - 1) (omega (arith, some_bits h)) in
      record { least = le_of_mul-le-mul_right {k = 2 ^ b} (omega (arith, p.scale, two_half b (some_bits h), lo)) (pow_pos b); most = short }

-- v is the largest side, and u another one
module _ (v n c u m b : ℕ) (q : AtBits v n c) (p : AtBits u m b) where
  pub no_more_bits : u ≤ v → b ≤ c
  no_more_bits h = le_unless b c (λ (g : c < b). omega (arith, fewer_bits v n c u m b q p g))

  -- a side that is not far has a length, and its leading bit lies at most 27 places below
  pub near_some : 0 < v → is_far v u ≡ false → 0 < u
  near_some h f = let g : v ≤ u * 2 ^ 27 = ltb-false (u * 2 ^ 27) v f in omega arith

  pub near_below : 0 < v → is_far v u ≡ false → c - b ≤ 27
  near_below h f =
      let g : v ≤ u * 2 ^ 27 = ltb-false (u * 2 ^ 27) v f in
      let k : c ≤ b + 27 = le_unless c (b + 27) (λ (l : b + 27 < c). omega (arith, fewer_bits (u * 2 ^ 27) m (b + 27) v n c (at_bits_more u m b p (near_some h f)) q l)) in
      omega arith

  -- places below
  lowered : b ≤ c → m * 2 ^ c ≡ u * 2 ^ 53 * 2 ^ (c - b)
  lowered h =
      let e : 2 ^ c ≡ 2 ^ b * 2 ^ (c - b) = ap (λ (x : ℕ). 2 ^ x) {x = c} {y = b + (c - b)} (omega arith) ∙ pow-add 2 b (c - b) in
      omega (arith, ap (λ (x : ℕ). m * x) e, ap (λ (x : ℕ). x * 2 ^ (c - b)) p.scale)

  -- the scaled side as a float
  pub scaled_is : 0 < v → u ≤ v → scaled v u ≡ scaled_side m (c - b)
  unfolding scaled_side
  scaled_is h l =
      let k : b ≤ c = no_more_bits l in
      let s : 1 ≤ c = some_bits v n c q h in
      let i : 2 ^ (52 + (c - b)) * 2 ≡ 2 ^ 53 * 2 ^ (c - b) = omega (arith, pow-add 2 52 (c - b)) in
      let j : u * 2 ^ (52 + (c - b)) * 2 ≡ m * 2 ^ (c - 1) * 2 = omega (arith, ap (λ (x : ℕ). u * x) i, lowered k, ap (λ (x : ℕ). m * x) (two_half c s)) in
      ap (λ (x : ℕ). round binary64 false u (2 ^ (x - 1))) (sym q.bits)
      ∙ round_same binary64 false u (2 ^ (c - 1)) m (2 ^ (52 + (c - b))) (pow_pos (c - 1)) (pow_pos (52 + (c - b)))
      (eq_of_mul-eq-mul_right 2 (omega arith) (u * 2 ^ (52 + (c - b))) (m * 2 ^ (c - 1)) j)

  -- a third side that is far, by significands
  pub far_below : u ≤ v → is_far v u ≡ true → m * 2 ^ 27 < n * 2 ^ (c - b)
  far_below l f =
      let k : b ≤ c = no_more_bits l in
      let g : u * 2 ^ 27 < v = ltb-true (u * 2 ^ 27) v f in
      let e : 2 ^ c ≡ 2 ^ (c - b) * 2 ^ b = ap (λ (x : ℕ). 2 ^ x) {x = c} {y = c - b + b} (omega arith) ∙ pow-add 2 (c - b) b in
      lt_of_mul-lt-mul_right (2 ^ b) (omega (arith, p.scale, q.scale, ap (λ (x : ℕ). n * x) e, g))

  -- a shorter side, by significands
  pub shorter_below : u < v → m < n * 2 ^ (c - b)
  shorter_below l =
      let k : b ≤ c = no_more_bits (omega arith) in
      let e : 2 ^ c ≡ 2 ^ (c - b) * 2 ^ b = ap (λ (x : ℕ). 2 ^ x) {x = c} {y = c - b + b} (omega arith) ∙ pow-add 2 (c - b) b in
      lt_of_mul-lt-mul_right (2 ^ b) (omega (arith, p.scale, q.scale, ap (λ (x : ℕ). n * x) e, l))
