-- The nearest representable integer, ties to even: no representable one is nearer, so rounding passes none, and what a rounded sum lacks is representable.
use Rattle.std.proofs.Common.{◌≡◌, ℕ, zero, suc, ◌+◌, ◌-◌, ◌*◌, ◌/◌, ◌%◌, ◌^◌, ◌<◌, ◌≤◌, ◌⊎◌, ℤ, pos, negsuc, ◌+ℤ◌, ◌-ℤ◌, neg_ℤ, nat_abs, sym, refl, ap, ◌∙◌, subst, inl, inr, le_trans, le_of_eq, lt_of_lt_of_le, lt_of_le_of_lt, le_of_lt, mul-le-mul_right, mod-lt, div-lt_iff_lt-mul, lt_of_mul-lt-mul_right, eq-or-lt_of_le, div-add-mod', le-div_iff_mul-le, arith, pow_pos, pow_mono, pow-add, shl_lt}
use Prim.Native.Nat.{compare, Ordering}
use lib.IntN.{+ℤ_comm}
use lib.Ieee.{nearest}
use lib.Ieee.Digits.{size_reaches}
use lib.Ieee.Nearest.{closest}
use Rattle.std.proofs.lemmas.Int.{ints}
use Rattle.floats.proofs.Comparisons.{Compared, compared}
use Rattle.floats.proofs.Grid.{Multiple, excess, Short, Representable, lt_or_le, le_or_le, finer, below, on_grid, grid_above, zero_short, sum_multiple, difference_multiple}

abbrev pub rounded : ℕ → ℕ
rounded n = closest n (2 ^ excess n) * 2 ^ excess n

abbrev pub roundedℤ : ℤ → ℤ
roundedℤ (pos n) = pos (rounded n)
roundedℤ (negsuc n) = neg_ℤ (pos (rounded (suc n)))

-- The closest multiple is the whole part, or one more.

-- w is the closest to q + r / P
abbrev Closest : ℕ → ℕ → ℕ → ℕ → Type 0
Closest w q r P = ((w ≡ q) × (r * 2 ≤ P)) ⊎ ((w ≡ suc q) × (P ≤ r * 2))

tie : (q p r P : ℕ) → p < 2 → r * 2 ≡ P → Closest (q + p) q r P
tie q zero r P l e = inl (omega arith)
tie q (suc zero) r P l e = inr (omega arith)
tie q (suc (suc p)) r P l e = absurd (omega arith)

closest_at : (q : ℕ) (o : Ordering) (r P : ℕ) → Compared o (r * 2) P → Closest (nearest q o) q r P
closest_at q Ordering.lt r P c = inl (refl, c)
closest_at q Ordering.eq r P c = tie q (q % 2) r P (omega arith) c
closest_at q Ordering.gt r P c = inr (refl, le_of_lt c)

closest_is : (n P : ℕ) → Closest (closest n P) (n / P) (n % P) P
closest_is n P = closest_at (n / P) (compare (n % P * 2) P) (n % P) P (compared (n % P * 2) P)

-- Short numbers at most n are at most the multiple of n's last place below it.

floor_place : (x n : ℕ) → Short x → x ≤ n → x ≤ n / 2 ^ excess n * 2 ^ excess n
floor_place x n p l = elim (lt_or_le (excess x) (excess n)) [ inl h ↦ shorter h | inr h ↦ multiple (finer x (excess x) (excess n) h p) ]
  where
    multiple : Multiple x (excess n) → x ≤ n / 2 ^ excess n * 2 ^ excess n
    multiple m = le_trans (le_of_eq m.is) (mul-le-mul_right (2 ^ excess n) ((le-div_iff_mul-le (pow_pos (excess n))).1 (le_trans (le_of_eq (sym m.is)) l)))

    shorter : excess x < excess n → x ≤ n / 2 ^ excess n * 2 ^ excess n
    shorter h =
        let k = excess n in
        let a : 2 ^ (52 + k) ≤ n = size_reaches n (52 + k) (omega arith) in
        let b : 2 ^ 52 * 2 ^ k ≤ n = le_trans (le_of_eq (sym (pow-add 2 52 k))) a in
        let d : 2 ^ 52 ≤ n / 2 ^ k = (le-div_iff_mul-le (pow_pos k)).1 b in
        le_trans (le_of_lt (below x)) (le_trans (pow_mono {i = 53 + excess x} {j = 52 + k} (omega arith)) (le_trans (le_of_eq (pow-add 2 52 k)) (mul-le-mul_right (2 ^ k) d)))

-- Rounding passes no short number, and none is nearer.

low_part : (x q r P w : ℕ) → x ≤ q * P → Closest w q r P → (x ≤ w * P) × (w * P + x ≤ 2 * (q * P + r))
low_part x q r P w l (inl (e, h)) = omega (arith, ap (λ (z : ℕ). z * P) e)
low_part x q r P w l (inr (e, h)) = omega (arith, ap (λ (z : ℕ). z * P) e)

pub near_low : (x n : ℕ) → Short x → x ≤ n → (x ≤ rounded n) × (rounded n + x ≤ 2 * n)
near_low x n p l =
    let P = 2 ^ excess n in
    subst (λ (m : ℕ). (x ≤ rounded n) × (rounded n + x ≤ 2 * m)) (div-add-mod' n P) (low_part x (n / P) (n % P) P (closest n P) (floor_place x n p l) (closest_is n P))

high_part : (d q r P w : ℕ) → r < P → q * P + r ≤ d * P → Closest w q r P → (w * P ≤ d * P) × (2 * (q * P + r) ≤ w * P + d * P)
high_part d q zero P w K l (inl (e, h)) = omega (arith, ap (λ (z : ℕ). z * P) e)
high_part d q (suc r) P w K l (inl (e, h)) =
    let o : q < d = lt_of_mul-lt-mul_right P (omega arith) in
    omega (arith, ap (λ (z : ℕ). z * P) e, mul-le-mul_right P o)
high_part d q zero P w K l (inr (e, h)) = absurd (omega arith)
high_part d q (suc r) P w K l (inr (e, h)) =
    let o : q < d = lt_of_mul-lt-mul_right P (omega arith) in
    omega (arith, ap (λ (z : ℕ). z * P) e, mul-le-mul_right P o)

pub near_high : (x n : ℕ) → Short x → n ≤ x → (rounded n ≤ x) × (2 * n ≤ rounded n + x)
near_high x n p l = go (grid_above n x l p)
  where
    go : Multiple x (excess n) → (rounded n ≤ x) × (2 * n ≤ rounded n + x)
    go m =
        let P = 2 ^ excess n in
        let d = m.times in
        let w : n / P * P + n % P ≡ n = div-add-mod' n P in
        let z = high_part d (n / P) (n % P) P (closest n P) (mod-lt n (pow_pos (excess n))) (omega (arith, m.is)) (closest_is n P) in
        subst (λ (y : ℕ). (rounded n ≤ y) × (2 * n ≤ rounded n + y)) (sym m.is) (subst (λ (y : ℕ). (rounded n ≤ d * P) × (2 * y ≤ rounded n + d * P)) w z)

near_short : (n x : ℕ) → Short x → (rounded n - n) + (n - rounded n) ≤ (x - n) + (n - x)
near_short n x p = elim (le_or_le x n) [ inl l ↦ omega (arith, near_low x n p l) | inr l ↦ omega (arith, near_high x n p l) ]

-- no representable x is nearer to z than the rounded z
pub near : (z x : ℤ) → Representable x → nat_abs (roundedℤ z -ℤ z) ≤ nat_abs (x -ℤ z)
near (pos n) (pos x) p = omega (arith, ints, near_short n x p)
near (pos n) (negsuc x) p = omega (arith, ints, near_short n 0 zero_short)
near (negsuc n) (pos x) p = omega (arith, ints, near_short (suc n) 0 zero_short)
near (negsuc n) (negsuc x) p = omega (arith, ints, near_short (suc n) (suc x) p)

pub rounded_exact : (z : ℤ) → Representable z → roundedℤ z ≡ z
rounded_exact z p = omega (arith, ints, near z z p)

-- The rounded number is representable.

closest_most : (n : ℕ) → closest n (2 ^ excess n) ≤ 2 ^ 53
closest_most n =
    let P = 2 ^ excess n in
    let a : n / P < 2 ^ 53 = (div-lt_iff_lt-mul (pow_pos (excess n))).1 (subst (λ (x : ℕ). n < x) (pow-add 2 53 (excess n)) (below n)) in
    omega (arith, closest_is n P)

rounded_short : (n : ℕ) → Short (rounded n)
rounded_short n = go (closest n (2 ^ excess n)) (eq-or-lt_of_le (closest_most n))
  where
    go : (q : ℕ) → (q ≡ 2 ^ 53) ⊎ (q < 2 ^ 53) → Short (q * 2 ^ excess n)
    go q (inr l) = on_grid (q * 2 ^ excess n) (excess n) (record { times = q; is = refl }) (shl_lt 53 (excess n) l)
    go q (inl e) =
        let k = excess n in
        let a : q * 2 ^ k ≡ 2 ^ 52 * 2 ^ suc k = ap (λ (x : ℕ). x * 2 ^ k) e ∙ omega arith in
        on_grid (q * 2 ^ k) (suc k) (record { times = 2 ^ 52; is = a }) (subst (λ (x : ℕ). x < 2 ^ (53 + suc k)) (sym a) (shl_lt 53 (suc k) (omega arith)))

pub rounded_representable : (z : ℤ) → Representable (roundedℤ z)
rounded_representable (pos n) = rounded_short n
rounded_representable (negsuc n) = subst Short (let e : rounded (suc n) ≡ nat_abs (neg_ℤ (pos (rounded (suc n)))) = omega (arith, ints) in e) (rounded_short (suc n))

pub rounded_opposite : (z : ℤ) → roundedℤ (neg_ℤ z) ≡ neg_ℤ (roundedℤ z)
rounded_opposite (pos zero) = let e : roundedℤ (pos 0) ≡ pos 0 = rounded_exact (pos 0) zero_short in omega (arith, ints)
rounded_opposite (pos (suc n)) = refl
rounded_opposite (negsuc n) = omega (arith, ints)

-- A multiple of 2 ^ k rounds to one.

rounded_multiple_short : (n k : ℕ) → Multiple n k → Multiple (rounded n) k
rounded_multiple_short n k p = elim (le_or_le k (excess n)) [
  | inl l ↦ finer (rounded n) (excess n) k l (record { times = closest n (2 ^ excess n); is = refl })
  | inr l ↦
      let e : rounded n ≡ n = exact (on_grid n k p (lt_of_lt_of_le (below n) (pow_mono {i = 53 + excess n} {j = 53 + k} (omega arith)))) in
      subst (λ (x : ℕ). Multiple x k) (sym e) p
]
  where
    exact : Short n → rounded n ≡ n
    exact q = omega (arith, near_short n n q)

pub rounded_multiple : (z : ℤ) (k : ℕ) → Multiple (nat_abs z) k → Multiple (nat_abs (roundedℤ z)) k
rounded_multiple (pos n) k p = rounded_multiple_short n k p
rounded_multiple (negsuc n) k p = subst (λ (x : ℕ). Multiple x k) (let e : rounded (suc n) ≡ nat_abs (neg_ℤ (pos (rounded (suc n)))) = omega (arith, ints) in e) (rounded_multiple_short (suc n) k p)

-- What the rounded sum of two representable numbers lacks is representable: a multiple of the last place of the smaller, and no larger than it.

lacking_ordered : (a b : ℤ) → Representable a → Representable b → nat_abs b ≤ nat_abs a → Representable (a +ℤ b -ℤ roundedℤ (a +ℤ b))
lacking_ordered a b p q l =
    let k = excess (nat_abs b) in
    let m : Multiple (nat_abs (a +ℤ b)) k = sum_multiple a b k (grid_above _ _ l p) q in
    let s : nat_abs (a +ℤ b -ℤ roundedℤ (a +ℤ b)) ≤ nat_abs b = omega (arith, ints, near (a +ℤ b) a p) in
    on_grid _ k (difference_multiple (a +ℤ b) (roundedℤ (a +ℤ b)) k m (rounded_multiple (a +ℤ b) k m)) (lt_of_le_of_lt s (below (nat_abs b)))

pub lacking : (a b : ℤ) → Representable a → Representable b → Representable (a +ℤ b -ℤ roundedℤ (a +ℤ b))
lacking a b p q = elim (le_or_le (nat_abs b) (nat_abs a)) [
  | inl l ↦ lacking_ordered a b p q l
  | inr l ↦ subst (λ (z : ℤ). Representable (z -ℤ roundedℤ z)) (+ℤ_comm b a) (lacking_ordered b a q p l)
]
