-- Two numbers near each other have floor roots near each other. A root halves the relative error, so 7 * 2 ^ -54 on a radicand is
-- less than 4 * 2 ^ -54 on a root, and that of a root below 2 ^ 54 is less than 4; the floors keep it at 4.
use Rattle.std.proofs.Common.{◌≡◌, ℕ, suc, ◌+◌, ◌-◌, ◌*◌, ◌^◌, ◌<◌, ◌≤◌, sym, ap, ◌∙◌, subst, le_trans, le_of_suc-le-suc, mul-le-mul_right, mul-le-mul, lt_of_mul-lt-mul_right, mul-le-mul_left, mul-pos, lt_of_not-le, arith, pow-add}
use Rattle.exact.specs.Root.{FloorRoot}
use Rattle.exact.proofs.Ulps.{four_is}
use Rattle.floats.specs.Near.{Near}
use Rattle.floats.proofs.Nearness.{near_scale, near_unscale}
use Rattle.head.specs.Bound.{FloorRootOf, WithinFour, NearRoot}
use Rattle.head.proofs.Powers.{four_pos}

-- t is not five or more above s
not_above : (A b c s t : ℕ) → A < (s + 1) * (s + 1) → t * t * c ≤ b → b * 2 ^ 54 ≤ A * c * 2 ^ 54 + b * 7 → 2 ^ 53 ≤ s → s < 2 ^ 54 → s + 5 ≤ t → 0 < c → ⊥
not_above A b c s t hi lo n big small far C =
    let p : (s + 5) * (s + 5) * c ≤ b = le_trans (mul-le-mul_right c (mul-le-mul far far)) lo in
    let q : A * c + c ≤ (s + 1) * (s + 1) * c = omega (arith, mul-le-mul_right c hi) in
    let r : (s + 5) * (s + 5) * (2 ^ 54 - 7) * c < (s + 1) * (s + 1) * 2 ^ 54 * c = omega arith in
    let k : (s + 5) * (s + 5) * (2 ^ 54 - 7) < (s + 1) * (s + 1) * 2 ^ 54 = lt_of_mul-lt-mul_right c r in
    let m : s * s ≤ s * 2 ^ 54 = mul-le-mul_left s (omega arith) in
    omega arith

-- s is not five or more above t
not_below : (A b c s t : ℕ) → s * s ≤ A → b < (t + 1) * (t + 1) * c → A * c * 2 ^ 54 ≤ b * 2 ^ 54 + b * 7 → 2 ^ 53 ≤ s → s < 2 ^ 54 → t + 5 ≤ s → ⊥
not_below A b c s t lo hi n big small far =
    let p : s * s * c ≤ A * c = mul-le-mul_right c lo in
    let r : s * s * 2 ^ 54 * c < (t + 1) * (t + 1) * (2 ^ 54 + 7) * c = omega arith in
    let k : s * s * 2 ^ 54 < (t + 1) * (t + 1) * (2 ^ 54 + 7) = lt_of_mul-lt-mul_right c r in
    let q : (t + 5) * (t + 5) ≤ s * s = mul-le-mul far far in
    let m : (t + 1) * (t + 1) ≤ (t + 1) * 2 ^ 54 = mul-le-mul_left (t + 1) (omega arith) in
    omega arith

-- A, a whole number, is within 7 * 2 ^ -54 of b / c
within_four : (A b c s t : ℕ) → 0 < c → FloorRoot A s → FloorRootOf b c t → Near 7 (2 ^ 54) (A * c) b → 2 ^ 53 ≤ s → s < 2 ^ 54 → WithinFour s t
within_four A b c s t C r q n big small = record {
  above = le_of_suc-le-suc (lt_of_not-le (λ far. not_above A b c s t r.high q.low n.below big small (omega arith) C));
  below = le_of_suc-le-suc (lt_of_not-le (λ far. not_below A b c s t r.low q.high n.above big small (omega arith)));
}

-- The root of a word has 54 bits.

root_low : (w s : ℕ) → 2 ^ 62 ≤ w → FloorRoot (w * 2 ^ 44) s → 2 ^ 53 ≤ s
root_low w s h r =
    le_of_suc-le-suc (lt_of_not-le (λ (g : suc s ≤ 2 ^ 53). absurd (let q : s + 1 ≤ 2 ^ 53 = omega arith in let p : (s + 1) * (s + 1) ≤ 2 ^ 53 * 2 ^ 53 = mul-le-mul q q in omega (arith, r.high))))

root_high : (w s : ℕ) → w < 2 ^ 64 → FloorRoot (w * 2 ^ 44) s → s < 2 ^ 54
root_high w s h r = lt_of_not-le (λ (g : 2 ^ 54 ≤ s). absurd (let p : 2 ^ 54 * 2 ^ 54 ≤ s * s = mul-le-mul g g in omega (arith, r.low)))

-- A float of R over U, which is w / 4 ^ a, is near X / U ^ 2, which is the exact radicand n / 4 ^ scale.
module _ (U R X n scale w a : ℕ) (P : 0 < U) (word : R * 4 ^ a ≡ w * U) (exact : n * (U * U) ≡ X * 4 ^ scale) (near : Near 7 (2 ^ 54) (R * U) X) where
  abbrev K : ℕ
  K = 4 ^ a

  abbrev c : ℕ
  c = 4 ^ scale

  -- both in the word's scale
  scaled_near : Near 7 (2 ^ 54) (w * 2 ^ 44 * c) (n * (2 ^ 44 * K))
  scaled_near =
      let k = near_scale 7 (2 ^ 54) (R * U) X (2 ^ 44 * K * c) near in
      let x : R * U * (2 ^ 44 * K * c) ≡ w * 2 ^ 44 * c * (U * U) = omega (arith, ap (λ (z : ℕ). z * (2 ^ 44 * c * U)) word) in
      let y : X * (2 ^ 44 * K * c) ≡ n * (2 ^ 44 * K) * (U * U) = omega (arith, ap (λ (z : ℕ). z * (2 ^ 44 * K)) exact) in
      near_unscale 7 (2 ^ 54) (w * 2 ^ 44 * c) (n * (2 ^ 44 * K)) (U * U) (mul-pos P P) (subst (λ (z : ℕ). Near 7 (2 ^ 54) z (n * (2 ^ 44 * K) * (U * U))) x (subst (λ (z : ℕ). Near 7 (2 ^ 54) (R * U * (2 ^ 44 * K * c)) z) y k))

  places : 4 ^ (22 + a) ≡ 2 ^ 44 * K
  places = four_is (22 + a) ∙ ap (λ (x : ℕ). 2 ^ x) {x = 2 * (22 + a)} {y = 44 + 2 * a} (omega arith) ∙ pow-add 2 44 (2 * a) ∙ ap (λ (x : ℕ). 2 ^ 44 * x) (sym (four_is a))

  pub near_root : 2 ^ 62 ≤ w → w < 2 ^ 64 → NearRoot n scale w a
  near_root lo hi s t r q =
      within_four (w * 2 ^ 44) (n * 4 ^ (22 + a)) c s t (four_pos scale) r q (subst (λ (z : ℕ). Near 7 (2 ^ 54) (w * 2 ^ 44 * c) (n * z)) (sym places) scaled_near) (root_low w s lo r) (root_high w s hi r)
