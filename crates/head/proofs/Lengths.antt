-- A number below 2 ^ 53 brought to 53 bits: its leading bit at place j goes up by 52 - j places, which the zeros above it count.
use Rattle.std.proofs.Common.{◌≡◌, ℕ, suc, ◌+◌, ◌-◌, ◌*◌, ◌%◌, ◌^◌, ◌<◌, ◌≤◌, sym, ap, ◌∙◌, le_trans, le_of_eq, lt_of_lt_of_le, le_of_suc-le-suc, mul-le-mul_right, mod-eq_of_lt, mul-lt-mul_of_pos_right, lt_of_not-le, not-le_of_lt, arith, pow_pos, pow_mono, pow-add}
use lib.Count.{count_leading_zeros}
use Rattle.std.proofs.lemmas.Nat.{leading_top}
use Rattle.head.specs.Side.{Full}

pub record Moved (k zeros : ℕ) : Type 0 where
  pub room : 11 ≤ zeros
  pub bound : zeros - 11 ≤ 52
  pub full : Full (k * 2 ^ (zeros - 11))
  pub whole : k * 2 ^ (zeros - 11) % 2 ^ 64 ≡ k * 2 ^ (zeros - 11)

moved_from : (k zeros j : ℕ) → k < 2 ^ 53 → zeros + suc j ≡ 64 → 2 ^ j ≤ k → k < 2 ^ suc j → Moved k zeros
moved_from k zeros j h e lo hi =
    let small : j ≤ 52 = le_of_suc-le-suc (lt_of_not-le (λ (g : 53 ≤ j). not-le_of_lt h (le_trans (pow_mono {i = 53} {j = j} g) lo))) in
    let i = zeros - 11 in
    let p : j + i ≡ 52 = omega arith in
    let a : 2 ^ 52 ≤ k * 2 ^ i = le_trans (le_of_eq (ap (λ (y : ℕ). 2 ^ y) (sym p) ∙ pow-add 2 j i)) (mul-le-mul_right (2 ^ i) lo) in
    let q : suc j + i ≡ 53 = omega arith in
    let b : k * 2 ^ i < 2 ^ 53 = lt_of_lt_of_le (mul-lt-mul_of_pos_right hi (pow_pos i)) (le_of_eq (sym (ap (λ (y : ℕ). 2 ^ y) (sym q) ∙ pow-add 2 (suc j) i))) in
    record { room = omega arith; bound = omega arith; full = record { least = a; most = b }; whole = mod-eq_of_lt (omega arith) }

pub moved : (k : ℕ) → 0 < k → k < 2 ^ 53 → Moved k (count_leading_zeros 64 k)
moved k p h = let t = leading_top 64 k p (omega arith) in moved_from k (count_leading_zeros 64 k) t.0 h t.1 t.2 t.3
