-- How many bits a number has, against powers of two.
use Rattle.std.proofs.Common.{◌≡◌, ℕ, ◌+◌, ◌-◌, ◌*◌, ◌/◌, ◌^◌, ◌<◌, ◌≤◌, max, sym, subst, le_trans, lt_of_lt_of_le, arith}
use lib.Count.{count_leading_zeros, leading_length}
use Rattle.exact.specs.Length.{Ulp}
use Rattle.exact.proofs.Squares.{two_le, two_half, le_unless}
use Rattle.exact.proofs.Ulps.{four_is}

-- k has m bits
pub record HasBits (k m : ℕ) : Type 0 where
  pub most : k < 2 ^ m
  pub least : 2 ^ m ≤ 2 * k + 1

pub bits_are : (k : ℕ) → k < 2 ^ 64 → HasBits k (64 - count_leading_zeros 64 k)
bits_are k h =
    let l = leading_length 64 k h in
    let e : l.0 ≡ 64 - count_leading_zeros 64 k = omega (arith, l.1) in
    subst (HasBits k) e (record { most = l.2; least = l.3 })

module _ (k m : ℕ) (h : HasBits k m) where
  -- the leading bit
  leading : 1 ≤ m → 2 ^ (m - 1) ≤ k
  leading g = omega (arith, h.least, two_half m g)

  pub short_of : (p : ℕ) → m ≤ p → k < 2 ^ p
  short_of p g = lt_of_lt_of_le h.most (two_le m p g)

  pub bits_most : (p : ℕ) → k < 2 ^ p → m ≤ p
  bits_most p g = le_unless m p (λ (b : p < m). let i : p ≤ m - 1 = omega arith in omega (arith, leading (omega arith), two_le p (m - 1) i, g))

  pub full_of : (p : ℕ) → max p 1 ≤ m → 2 ^ (p - 1) ≤ k
  full_of p g = let i : p - 1 ≤ m - 1 = omega arith in le_trans (two_le (p - 1) (m - 1) i) (leading (omega arith))

  pub bits_least : (p : ℕ) → 2 ^ (p - 1) ≤ k → max p 1 ≤ m
  bits_least p g = le_unless (max p 1) m (λ (b : m < max p 1). let i : m ≤ p - 1 = omega arith in omega (arith, two_le m (p - 1) i, h.most, g))

-- the bits of a radicand tell the last place of its root
pub ulp_by_bits : (p n m : ℕ) → HasBits n m → Ulp p n ((m + 1) / 2 - p)
ulp_by_bits p n m h = record {
  fits = subst (λ (x : ℕ). n < x) (sym (four_is (p + ((m + 1) / 2 - p)))) (short_of n m h (2 * (p + ((m + 1) / 2 - p))) (omega arith));
  least = λ f g. let b : m ≤ 2 * (p + f) = bits_most n m h (2 * (p + f)) (subst (λ (x : ℕ). n < x) (four_is (p + f)) g) in omega arith;
}
