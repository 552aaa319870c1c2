-- Each step of an exact sum has a representable result, so that rounding leaves it as it is. All follows from distances: no representable number is nearer to a sum than the rounded sum.
use Rattle.std.proofs.Common.{◌≡◌, suc, ◌*◌, ◌^◌, ◌<◌, ◌≤◌, ◌⊎◌, ℤ, pos, negsuc, ◌+ℤ◌, ◌-ℤ◌, neg_ℤ, nat_abs, inl, inr, le_of_lt, arith}
use Rattle.std.proofs.lemmas.Int.{ints}
use Rattle.floats.proofs.Grid.{Representable, lt_or_le, same_representable, same_short, small_short, zero_short, twice_short, half_short, opposite, close_difference}
use Rattle.floats.proofs.Nearest.{roundedℤ, near, rounded_exact, rounded_representable, lacking}

twice_representable : (z : ℤ) → Representable z → Representable (z +ℤ z)
twice_representable z p = same_short _ _ (let e : 2 * nat_abs z ≡ nat_abs (z +ℤ z) = omega (arith, ints) in e) (twice_short (nat_abs z) p)

reversed : (x y : ℤ) → Representable (x -ℤ y) → Representable (y -ℤ x)
reversed x y p = same_short _ _ (let e : nat_abs (x -ℤ y) ≡ nat_abs (y -ℤ x) = omega (arith, ints) in e) p

-- z is below 2 ^ 53 in size, or twice a representable number
half_representable : (z : ℤ) → Representable z → (nat_abs z < 2 ^ 53) ⊎ ((h : ℤ) × (z ≡ h +ℤ h) × Representable h)
half_representable (pos n) p = elim (half_short n p) [ inl l ↦ inl l | inr (h, e, q) ↦ inr (pos h, omega (arith, ints), q) ]
half_representable (negsuc n) p = elim (half_short (suc n) p) [ inl l ↦ inl l | inr (h, e, q) ↦ inr (neg_ℤ (pos h), omega (arith, ints), opposite (pos h) q) ]

-- what lies within half of x from x rounds to a number whose difference from x is representable
pub close_rounded : (x z : ℤ) → Representable x → 2 * nat_abs (z -ℤ x) ≤ nat_abs x → Representable (roundedℤ z -ℤ x)
close_rounded x z p l = elim (half_representable x p) [
  | inl small ↦ small_short _ (omega (arith, ints, near z x p))
  | inr (h, e, q) ↦ close_difference (roundedℤ z) x (rounded_representable z) p (omega (arith, ints, near z h q)) (omega (arith, ints, near z x p))
]

-- a sum that is no larger than either of its terms is exact
exact_close : (a b : ℤ) → Representable a → Representable b → nat_abs (a +ℤ b) ≤ nat_abs a → nat_abs (a +ℤ b) ≤ nat_abs b → roundedℤ (a +ℤ b) ≡ a +ℤ b
exact_close a b p q l m =
    let e : a -ℤ neg_ℤ b ≡ a +ℤ b = omega (arith, ints) in
    rounded_exact (a +ℤ b) (same_representable _ _ e (close_difference a (neg_ℤ b) p (opposite b q) (omega (arith, ints)) (omega (arith, ints))))

-- for |b| ≤ |a| the rounded sum less a is representable: where b is over half of a, the sum is exact or lies between a and 2a
pub less_larger : (a b : ℤ) → Representable a → Representable b → nat_abs b ≤ nat_abs a → Representable (roundedℤ (a +ℤ b) -ℤ a)
less_larger a b p q l = elim (lt_or_le (nat_abs a) (2 * nat_abs b)) [
  | inl h ↦ elim (lt_or_le (nat_abs b) (nat_abs (a +ℤ b))) [
    | inl g ↦ close_difference (roundedℤ (a +ℤ b)) a (rounded_representable (a +ℤ b)) p (omega (arith, ints, near (a +ℤ b) a p)) (omega (arith, ints, near (a +ℤ b) (a +ℤ a) (twice_representable a p)))
    | inr g ↦
        let e : roundedℤ (a +ℤ b) ≡ a +ℤ b = exact_close a b p q (omega arith) g in
        same_representable _ _ (let d : b ≡ roundedℤ (a +ℤ b) -ℤ a = omega (arith, ints) in d) q
  ]
  | inr h ↦ close_rounded a (a +ℤ b) p (omega (arith, ints))
]

-- The sum of a and b in either order: s is the rounded sum, t the rounded s - a; then these differences are exact.
pub record Steps (a b s t : ℤ) : Type 0 where
  pub first : Representable (s -ℤ t)
  pub b_part : Representable (b -ℤ t)
  pub a_part : Representable (a -ℤ (s -ℤ t))
  pub lacks : Representable (a +ℤ b -ℤ s)

-- where s - a is representable, t is it, and nothing of a is lost
no_loss : (a b s t : ℤ) → Representable a → Representable (a +ℤ b -ℤ s) → t ≡ s -ℤ a → Steps a b s t
no_loss a b s t p q e = record {
  first = same_representable _ _ (let d : a ≡ s -ℤ t = omega (arith, ints) in d) p;
  b_part = same_representable _ _ (let d : a +ℤ b -ℤ s ≡ b -ℤ t = omega (arith, ints) in d) q;
  a_part = same_representable _ _ (let d : pos 0 ≡ a -ℤ (s -ℤ t) = omega (arith, ints) in d) zero_short;
  lacks = q;
}

-- what the rounded sum lacks is at most half of the larger term, since the sum lies between two of 0, b and 2b
small_lack : (a b : ℤ) → Representable b → nat_abs a ≤ nat_abs b → 2 * nat_abs (roundedℤ (a +ℤ b) -ℤ (a +ℤ b)) ≤ nat_abs b
small_lack a b q l = omega (arith, ints, near (a +ℤ b) (pos 0) zero_short, near (a +ℤ b) b q, near (a +ℤ b) (b +ℤ b) (twice_representable b q))

-- for |a| ≤ |b| and |a| ≤ |s|
loss : (a b : ℤ) → Representable a → Representable b → nat_abs a ≤ nat_abs b → nat_abs a ≤ nat_abs (roundedℤ (a +ℤ b)) → Steps a b (roundedℤ (a +ℤ b)) (roundedℤ (roundedℤ (a +ℤ b) -ℤ a))
loss a b p q l m =
    let s = roundedℤ (a +ℤ b) in
    let t = roundedℤ (s -ℤ a) in
    let f : Representable (t -ℤ s) = less_larger s (neg_ℤ a) (rounded_representable (a +ℤ b)) (opposite a p) (omega (arith, ints)) in
    let g : Representable (t -ℤ b) = close_rounded b (s -ℤ a) q (omega (arith, ints, small_lack a b q l)) in
    record {
      first = reversed t s f;
      b_part = reversed t b g;
      a_part = same_representable _ _ (let d : t -ℤ (s -ℤ a) ≡ a -ℤ (s -ℤ t) = omega (arith, ints) in d) (reversed (s -ℤ a) t (lacking s (neg_ℤ a) (rounded_representable (a +ℤ b)) (opposite a p)));
      lacks = lacking a b p q;
    }

pub steps : (a b : ℤ) → Representable a → Representable b → Steps a b (roundedℤ (a +ℤ b)) (roundedℤ (roundedℤ (a +ℤ b) -ℤ a))
steps a b p q =
    let s = roundedℤ (a +ℤ b) in
    elim (lt_or_le (nat_abs a) (nat_abs b)) [
      | inl l ↦ elim (lt_or_le (nat_abs s) (nat_abs a)) [
        | inl h ↦
            -- the sum is then smaller than a too, since rounding passes neither a nor -a
            let c : nat_abs (a +ℤ b) ≤ nat_abs a = omega (arith, ints, near (a +ℤ b) a p, near (a +ℤ b) (neg_ℤ a) (opposite a p)) in
            let e : s ≡ a +ℤ b = exact_close a b p q c (omega arith) in
            no_loss a b s _ p (lacking a b p q) (rounded_exact (s -ℤ a) (same_representable _ _ (let d : b ≡ s -ℤ a = omega (arith, ints) in d) q))
        | inr h ↦ loss a b p q (le_of_lt l) h
      ]
      | inr l ↦ no_loss a b s _ p (lacking a b p q) (rounded_exact (s -ℤ a) (less_larger a b p q l))
    ]
