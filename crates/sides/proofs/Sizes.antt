-- How many bits a magnitude has: with a significand of 53 bits it lies between two powers of two, and sides are in the order of
-- their bits, then of their significands.
use mathlib.Core.Path.{◌≡◌, refl, sym, ap, ◌∙◌, subst}
use mathlib.Core.Bool.{Bool, true, false, cond}
use Prim.Native.Nat.{ℕ, ◌+◌, ◌-◌, ◌*◌, ◌^◌, ◌≤◌, ◌<◌}
use native.Mathlib.Nat.{le_of_lt, le_trans, lt_of_lt_of_le, lt_of_not-le, not-le_of_lt, le_antisymm, le_of_mul-le-mul_right, lt_of_mul-lt-mul_right, mul-lt-mul_of_pos_right, mul-le-mul_right, mul_assoc}
use native.Mathlib.Omega.{arith}
use lib.Dec.{ltb, eqb}
use lib.Pow.{pow-add, pow_pos, pow_mono}
use lib.Ieee.{size}
use lib.Ieee.Digits.{size-lt, size-le, size_reaches}
use borrow.Author.Tests.{lt-ltb, le-ltb, ltb-true, ltb-false, eqb-true, eqb-false}
use Rattle.std.proofs.Common.{Some, Less, Equal, Greater}
use Rattle.std.specs.Ordering.{is_lt, is_some_and, partial_ordering_then, nat_cmp}
use Rattle.exact.specs.Value.{units}
use Rattle.exact.proofs.Squares.{le_unless, lt_unless, two_half, two_le}
use Rattle.head.specs.Side.{Full}
use Rattle.sides.specs.Sized.{Sized}

-- a number between 2 ^ (b - 1) and 2 ^ b has b bits
pub size_between : (u b : ℕ) → u < 2 ^ b → 2 ^ b ≤ 2 * u → b ≡ size u
size_between u b hi lo =
    le_antisymm
    (le_unless b (size u) (λ (g : size u < b).
    let h : 2 ^ size u ≤ 2 ^ (b - 1) = two_le (size u) (b - 1) (omega arith) in
    omega (arith, size-lt u, h, two_half b (omega arith))))
    (size-le u b hi)

pub size_zero : size 0 ≡ 0
size_zero = le_antisymm (size-le 0 0 (omega arith)) (omega arith)

pub zero_sized : (k e : ℕ) → k ≡ 0 → Sized (units k e) 0 0
zero_sized k e z =
    let u : units k e ≡ 0 = ap (λ (x : ℕ). x * 2 ^ e) z ∙ omega arith in
    (omega (arith, ap (λ (x : ℕ). x * 2 ^ 53) u), sym (ap size u ∙ size_zero), omega arith)

-- m * 2 ^ b is 2 ^ 53 times u, so u has as many bits more than m as b - 53
pub full_bits : (u m b : ℕ) → Full m → m * 2 ^ b ≡ u * 2 ^ 53 → b ≡ size u
full_bits u m b f e =
    size_between u b
    (lt_of_mul-lt-mul_right (2 ^ 53) (omega (arith, e, mul-lt-mul_of_pos_right f.most (pow_pos b))))
    (le_of_mul-le-mul_right {k = 2 ^ 52} (omega (arith, e, mul-le-mul_right (2 ^ b) f.least)) (omega arith))

pub full_sized : (k e m j : ℕ) → Full m → m ≡ k * 2 ^ j → j ≤ 52 → e ≤ 4000 → Sized (units k e) m (e + 53 - j)
full_sized k e m j f v h l =
    let p : 2 ^ j * 2 ^ (e + 53 - j) ≡ 2 ^ e * 2 ^ 53 = sym (pow-add 2 j (e + 53 - j)) ∙ ap (λ (x : ℕ). 2 ^ x) {x = j + (e + 53 - j)} {y = e + 53} (omega arith) ∙ pow-add 2 e 53 in
    let q : m * 2 ^ (e + 53 - j) ≡ units k e * 2 ^ 53 = ap (λ (x : ℕ). x * 2 ^ (e + 53 - j)) v ∙ mul_assoc k (2 ^ j) (2 ^ (e + 53 - j)) ∙ ap (λ (x : ℕ). k * x) p ∙ sym (mul_assoc k (2 ^ e) (2 ^ 53)) in
    (q, full_bits (units k e) m (e + 53 - j) f q, omega arith)

-- The order of magnitudes by their bits, then by their significands.

-- m is u with its leading bit at place 52, and u has b bits
pub record AtBits (u m b : ℕ) : Type 0 where
  pub scale : m * 2 ^ b ≡ u * 2 ^ 53
  pub bits : b ≡ size u

pub at_bits : (u m b : ℕ) → Sized u m b → AtBits u m b
at_bits u m b s = record { scale = s.0; bits = s.1 }

module _ (u m a v n b : ℕ) (p : AtBits u m a) (q : AtBits v n b) where
  -- fewer bits are less
  pub fewer_bits : a < b → u < v
  fewer_bits h =
      let e : a ≡ size u = p.bits in
      let f : b ≡ size v = q.bits in
      lt_of_lt_of_le (size-lt u) (le_trans (two_le (size u) (b - 1) (omega arith)) (size_reaches v (b - 1) (omega arith)))

  same_bits_less : a ≡ b → m < n → u < v
  same_bits_less e h =
      let x : m * 2 ^ a < n * 2 ^ a = mul-lt-mul_of_pos_right h (pow_pos a) in
      let y : n * 2 ^ a ≡ v * 2 ^ 53 = ap (λ (z : ℕ). n * 2 ^ z) e ∙ q.scale in
      lt_of_mul-lt-mul_right (2 ^ 53) (omega (arith, x, y, p.scale))

  same_bits_not : a ≡ b → n ≤ m → v ≤ u
  same_bits_not e h =
      let x : n * 2 ^ a ≤ m * 2 ^ a = mul-le-mul_right (2 ^ a) h in
      let y : n * 2 ^ a ≡ v * 2 ^ 53 = ap (λ (z : ℕ). n * 2 ^ z) e ∙ q.scale in
      le_of_mul-le-mul_right {k = 2 ^ 53} (omega (arith, x, y, p.scale)) (omega arith)

-- `<` on pairs of numbers
abbrev pub pair_lt : ℕ → ℕ → ℕ → ℕ → Bool
pair_lt a m b n = is_some_and is_lt (partial_ordering_then (Some (nat_cmp a b)) (Some (nat_cmp m n)))

module _ (u m a v n b : ℕ) (p : AtBits u m a) (q : AtBits v n b) where
  same_bits : a ≡ b → (s : Bool) → ltb m n ≡ s → (t : Bool) → is_lt (cond s Less (cond t Equal Greater)) ≡ ltb u v
  same_bits e true s t = sym (lt-ltb u v (same_bits_less u m a v n b p q e (ltb-true m n s)))
  same_bits e false s t = not_lower t ∙ sym (le-ltb u v (same_bits_not u m a v n b p q e (ltb-false m n s)))
    where
      not_lower : (t : Bool) → is_lt (cond t Equal Greater) ≡ false
      not_lower true = refl
      not_lower false = refl

  pub in_order : pair_lt a m b n ≡ ltb u v
  in_order = go (ltb a b) refl (eqb a b) refl
    where
      go : (s : Bool) → ltb a b ≡ s → (t : Bool) → eqb a b ≡ t → is_some_and is_lt (partial_ordering_then (Some (cond s Less (cond t Equal Greater))) (Some (nat_cmp m n))) ≡ ltb u v
      go true s t e = sym (lt-ltb u v (fewer_bits u m a v n b p q (ltb-true a b s)))
      go false s true e = same_bits (eqb-true a b e) (ltb m n) refl (eqb m n)
      go false s false e =
          let h : b ≤ a = ltb-false a b s in
          let d : a ≡ b → ⊥ = eqb-false a b e in
          sym (le-ltb u v (le_of_lt (fewer_bits v n b u m a q p (lt_unless b a (λ (g : a ≤ b). d (le_antisymm g h))))))

-- the same by the first numbers, and by the second where those are equal
pub by_parts : (a m b n : ℕ) → cond (eqb a b) (ltb m n) (ltb a b) ≡ pair_lt a m b n
by_parts a m b n = go (ltb a b) refl (eqb a b) refl
  where
    second : (s t : Bool) → s ≡ is_lt (cond s Less (cond t Equal Greater))
    second true t = refl
    second false true = refl
    second false false = refl

    go : (s : Bool) → ltb a b ≡ s → (t : Bool) → eqb a b ≡ t → cond t (ltb m n) s ≡ is_some_and is_lt (partial_ordering_then (Some (cond s Less (cond t Equal Greater))) (Some (nat_cmp m n)))
    go true s true e = absurd (omega (arith, ltb-true a b s, eqb-true a b e))
    go true s false e = refl
    go false s true e = second (ltb m n) (eqb m n)
    go false s false e = refl

-- a magnitude times 2 ^ 27 has 27 bits more
pub at_bits_more : (u m b : ℕ) → AtBits u m b → 0 < u → AtBits (u * 2 ^ 27) m (b + 27)
at_bits_more u m b p h =
    let e : b ≡ size u = p.bits in
    let some : 0 < size u = lt_of_not-le (λ (z : size u ≤ 0). not-le_of_lt (lt_of_lt_of_le (size-lt u) (pow_mono {i = size u} {j = 0} z)) h) in
    let s : 2 ^ (b + 27) ≡ 2 ^ b * 2 ^ 27 = pow-add 2 b 27 in
    let lo : 2 ^ (b - 1) ≤ u = size_reaches u (b - 1) (omega arith) in
    let hi : u < 2 ^ b = subst (λ (x : ℕ). u < 2 ^ x) (sym e) (size-lt u) in
    record {
      scale = omega (arith, ap (λ (x : ℕ). m * x) s, p.scale);
      bits = size_between (u * 2 ^ 27) (b + 27) (omega (arith, s, hi)) (omega (arith, s, lo, two_half b (omega arith)));
    }

-- a side is zero exactly where its significand is
pub zero_significand : (u m b : ℕ) → AtBits u m b → m ≡ 0 → u ≡ 0
zero_significand u m b p z = omega (arith, p.scale, ap (λ (x : ℕ). x * 2 ^ b) z)

pub zero_magnitude : (u m b : ℕ) → AtBits u m b → u ≡ 0 → m ≡ 0
zero_magnitude u m b p z =
    let s : m * 2 ^ b ≡ 0 = omega (arith, p.scale, z) in
    le_antisymm (le_unless m 0 (λ (g : 0 < m). let h : 0 < m * 2 ^ b = lt_of_lt_of_le (pow_pos b) (omega (arith, mul-le-mul_right (2 ^ b) g)) in omega arith)) (omega arith)
