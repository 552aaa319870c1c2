-- Whole numbers of 53 bits times a power of two. A multiple of 2 ^ j below 2 ^ (53 + j) is one, and that is how sums and differences are seen to be.
use Rattle.std.proofs.Common.{◌≡◌, ℕ, zero, suc, ◌+◌, ◌-◌, ◌*◌, ◌^◌, ◌<◌, ◌≤◌, ◌⊎◌, ℤ, pos, negsuc, ◌+ℤ◌, ◌-ℤ◌, neg_ℤ, nat_abs, sym, refl, ap, ◌∙◌, subst, inl, inr, lt_of_lt_of_le, lt_of_le_of_lt, le_of_lt, mul_assoc, mul_comm, eq-zero-or-pos, arith, pow_mono, pow-add}
use native.Mathlib.Nat.{mul-sub, pow-succ'}
use lib.Ieee.{size}
use lib.Ieee.Digits.{size-lt, size-le, back}
use Rattle.std.proofs.lemmas.Int.{ints}

pub record Multiple (n k : ℕ) : Type 0 where
  pub times : ℕ
  pub is : n ≡ times * 2 ^ k

-- how many bits n has past 53
abbrev pub excess : ℕ → ℕ
excess n = size n - 53

-- n has at most 53 bits before its closing zeros
abbrev pub Short : ℕ → Type 0
Short n = Multiple n (excess n)

abbrev pub Representable : ℤ → Type 0
Representable z = Short (nat_abs z)

pub lt_or_le : (a b : ℕ) → (a < b) ⊎ (b ≤ a)
lt_or_le a b = elim (eq-zero-or-pos (b - a)) [ inl z ↦ inr (omega arith) | inr p ↦ inl (omega arith) ]

pub le_or_le : (a b : ℕ) → (a ≤ b) ⊎ (b ≤ a)
le_or_le a b = elim (lt_or_le a b) [ inl l ↦ inl (le_of_lt l) | inr l ↦ inr l ]

-- Multiples.

pub finer : (n j k : ℕ) → k ≤ j → Multiple n j → Multiple n k
finer n j k l m = record {
  times = m.times * 2 ^ (j - k);
  is = m.is ∙ ap (λ (x : ℕ). m.times * x) (ap (λ (x : ℕ). 2 ^ x) (sym (back j k l)) ∙ pow-add 2 (j - k) k) ∙ sym (mul_assoc m.times (2 ^ (j - k)) (2 ^ k));
}

multiple_sum : (m n k : ℕ) → Multiple m k → Multiple n k → Multiple (m + n) k
multiple_sum m n k p q = record { times = p.times + q.times; is = omega (arith, p.is, q.is) }

multiple_difference : (m n k : ℕ) → Multiple m k → Multiple n k → Multiple (m - n) k
multiple_difference m n k p q = record {
  times = p.times - q.times;
  is = (λ i. p.is i - q.is i) ∙ (λ i. mul_comm p.times (2 ^ k) i - mul_comm q.times (2 ^ k) i) ∙ sym (mul-sub (2 ^ k) p.times q.times) ∙ mul_comm (2 ^ k) (p.times - q.times);
}

pub same_multiple : (m n k : ℕ) → m ≡ n → Multiple m k → Multiple n k
same_multiple m n k e p = subst (λ (x : ℕ). Multiple x k) e p

-- of sizes m and n with unlike signs
apart : (m n : ℕ) (k : ℕ) (z : ℤ) → Multiple m k → Multiple n k → nat_abs z ≡ (m - n) + (n - m) → Multiple (nat_abs z) k
apart m n k z p q e = same_multiple _ _ k (sym e) (multiple_sum _ _ k (multiple_difference m n k p q) (multiple_difference n m k q p))

pub sum_multiple : (a b : ℤ) (k : ℕ) → Multiple (nat_abs a) k → Multiple (nat_abs b) k → Multiple (nat_abs (a +ℤ b)) k
sum_multiple (pos m) (pos n) k p q = multiple_sum m n k p q
sum_multiple (pos m) (negsuc n) k p q = apart m (suc n) k (pos m +ℤ negsuc n) p q (omega (arith, ints))
sum_multiple (negsuc m) (pos n) k p q = apart (suc m) n k (negsuc m +ℤ pos n) p q (omega (arith, ints))
sum_multiple (negsuc m) (negsuc n) k p q = same_multiple _ _ k (let e : suc m + suc n ≡ nat_abs (negsuc m +ℤ negsuc n) = omega (arith, ints) in e) (multiple_sum (suc m) (suc n) k p q)

pub opposite_multiple : (a : ℤ) (k : ℕ) → Multiple (nat_abs a) k → Multiple (nat_abs (neg_ℤ a)) k
opposite_multiple a k p = same_multiple _ _ k (let e : nat_abs a ≡ nat_abs (neg_ℤ a) = omega (arith, ints) in e) p

pub difference_multiple : (a b : ℤ) (k : ℕ) → Multiple (nat_abs a) k → Multiple (nat_abs b) k → Multiple (nat_abs (a -ℤ b)) k
difference_multiple a b k p q = sum_multiple a (neg_ℤ b) k p (opposite_multiple b k q)

-- Short numbers.

pub below : (n : ℕ) → n < 2 ^ (53 + excess n)
below n = lt_of_lt_of_le (size-lt n) (pow_mono {i = size n} {j = 53 + excess n} (omega arith))

excess_mono : (m n : ℕ) → m ≤ n → excess m ≤ excess n
excess_mono m n h = omega (arith, size-le m (size n) (lt_of_le_of_lt h (size-lt n)))

pub on_grid : (n j : ℕ) → Multiple n j → n < 2 ^ (53 + j) → Short n
on_grid n j p h = finer n j (excess n) (omega (arith, size-le n (53 + j) h)) p

-- a short number is a multiple of whatever power of two each smaller one is
pub grid_above : (m n : ℕ) → m ≤ n → Short n → Multiple n (excess m)
grid_above m n l p = finer n (excess n) (excess m) (excess_mono m n l) p

pub small_short : (n : ℕ) → n < 2 ^ 53 → Short n
small_short n h = on_grid n 0 (record { times = n; is = omega arith }) h

pub zero_short : Short 0
zero_short = small_short 0 (omega arith)

pub same_short : (m n : ℕ) → m ≡ n → Short m → Short n
same_short m n e p = subst Short e p

one_bit_more : (k : ℕ) → 2 ^ (53 + suc k) ≡ 2 * 2 ^ (53 + k)
one_bit_more k = ap (λ (x : ℕ). 2 ^ x) {x = 53 + suc k} {y = suc (53 + k)} (omega arith) ∙ pow-succ' 2 (53 + k)

pub twice_short : (n : ℕ) → Short n → Short (2 * n)
twice_short n p = on_grid (2 * n) (suc (excess n)) (record { times = p.times; is = omega (arith, p.is, ap (λ (x : ℕ). p.times * x) (pow-succ' 2 (excess n))) }) (omega (arith, below n, one_bit_more (excess n)))

-- n is below 2 ^ 53, or twice a short number
pub half_short : (n : ℕ) → Short n → (n < 2 ^ 53) ⊎ ((h : ℕ) × (n ≡ 2 * h) × Short h)
half_short n p = go (excess n) p.times p.is (below n)
  where
    go : (k c : ℕ) → n ≡ c * 2 ^ k → n < 2 ^ (53 + k) → (n < 2 ^ 53) ⊎ ((h : ℕ) × (n ≡ 2 * h) × Short h)
    go zero c e b = inl b
    go (suc k) c e b =
        let h = c * 2 ^ k in
        let d : n ≡ 2 * h = omega (arith, e, ap (λ (x : ℕ). c * x) (pow-succ' 2 k)) in
        inr (h, d, on_grid h k (record { times = c; is = refl }) (omega (arith, b, d, one_bit_more k)))

-- Representable integers.

pub same_representable : (y z : ℤ) → y ≡ z → Representable y → Representable z
same_representable y z e p = subst Representable e p

pub opposite : (z : ℤ) → Representable z → Representable (neg_ℤ z)
opposite z p = same_short _ _ (let e : nat_abs z ≡ nat_abs (neg_ℤ z) = omega (arith, ints) in e) p

-- a difference that is no larger than either of its terms
pub close_difference : (x y : ℤ) → Representable x → Representable y → nat_abs (x -ℤ y) ≤ nat_abs x → nat_abs (x -ℤ y) ≤ nat_abs y → Representable (x -ℤ y)
close_difference x y p q l m = elim (le_or_le (nat_abs x) (nat_abs y)) [
  | inl h ↦ let k = excess (nat_abs x) in on_grid _ k (difference_multiple x y k p (grid_above _ _ h q)) (lt_of_le_of_lt l (below (nat_abs x)))
  | inr h ↦ let k = excess (nat_abs y) in on_grid _ k (difference_multiple x y k (grid_above _ _ h p) q) (lt_of_le_of_lt m (below (nat_abs y)))
]
