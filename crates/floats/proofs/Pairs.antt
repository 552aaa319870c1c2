-- What the two exact sums compute: each step after the first is exact, so the parts' units are those of the terms.
use Rattle.std.proofs.Common.{◌≡◌, ◌+◌, ◌*◌, ◌≤◌, true, T, ℤ, pos, ◌+ℤ◌, ◌-ℤ◌, nat_abs, sym, refl, subst, arith}
use lib.Ieee.{Float, binary64, add, sub, fits}
use lib.Ieee.Fits.{add-fits, sub-fits}
use Rattle.std.proofs.lemmas.Int.{ints}
use Rattle.floats.specs.Units.{units, Moderate}
use Rattle.floats.specs.ExactSum.{ExactSum, from_b, from_a, lost_of_b, lost_of_a, lost}
use Rattle.floats.proofs.Grid.{Representable, zero_short}
use Rattle.floats.proofs.Nearest.{roundedℤ, near, rounded_exact, lacking}
use Rattle.floats.proofs.ExactSum.{less_larger, steps}
use Rattle.floats.proofs.Values.{capacity, most_within, Is, known, is_finite, is_units, add_units, sub_units}

pub rounded_most : (z : ℤ) → nat_abs (roundedℤ z) ≤ 2 * nat_abs z
rounded_most z = omega (arith, ints, near z (pos 0) zero_short)

-- A representable sum or difference is exact.

pub add_exact : (x y : Float) (z w : ℤ) → Is x z → Is y w → nat_abs z + nat_abs w ≤ capacity → Representable (z +ℤ w) → Is (add binary64 x y) (z +ℤ w)
add_exact x y z w p q l r = subst (λ (k : ℤ). Is (add binary64 x y) k) (rounded_exact (z +ℤ w) r) (add_units x y z w p q l)

pub sub_exact : (x y : Float) (z w : ℤ) → Is x z → Is y w → nat_abs z + nat_abs w ≤ capacity → Representable (z -ℤ w) → Is (sub binary64 x y) (z -ℤ w)
sub_exact x y z w p q l r = subst (λ (k : ℤ). Is (sub binary64 x y) k) (rounded_exact (z -ℤ w) r) (sub_units x y z w p q l)

-- no step comes near an overflow
record Sizes (A B S R : ℤ) : Type 0 where
  step_b : nat_abs S + nat_abs A ≤ capacity
  step_a : nat_abs S + nat_abs R ≤ capacity
  lose_b : nat_abs B + nat_abs R ≤ capacity
  lose_a : nat_abs A + nat_abs (S -ℤ R) ≤ capacity
  lose : nat_abs (B -ℤ R) + nat_abs (A -ℤ (S -ℤ R)) ≤ capacity

sizes : (A B S R : ℤ) → 32 * nat_abs A ≤ capacity → 32 * nat_abs B ≤ capacity → nat_abs S ≤ 2 * nat_abs (A +ℤ B) → nat_abs R ≤ 2 * nat_abs (S -ℤ A) → Sizes A B S R
sizes A B S R l m s r =
    let s' : nat_abs S ≤ 2 * nat_abs A + 2 * nat_abs B = omega (arith, ints) in
    let r' : nat_abs R ≤ 2 * nat_abs S + 2 * nat_abs A = omega (arith, ints) in
    record {
      step_b = omega arith;
      step_a = omega arith;
      lose_b = omega arith;
      lose_a = omega (arith, ints);
      lose = omega (arith, ints);
    }

-- x is z units, with room to sum a few such
record Term (x : Float) (z : ℤ) : Type 0 where
  is : Is x z
  representable : Representable z
  room : 32 * nat_abs z ≤ capacity

module _ (a b : Float) (A B : ℤ) (p : Term a A) (q : Term b B) where
  abbrev S : ℤ
  S = roundedℤ (A +ℤ B)

  abbrev R : ℤ
  R = roundedℤ (S -ℤ A)

  room : Sizes A B S R
  room = sizes A B S R p.room q.room (rounded_most (A +ℤ B)) (rounded_most (S -ℤ A))

  hi_units : Is (add binary64 a b) S
  hi_units = add_units a b A B p.is q.is (omega (arith, p.room, q.room))

  from_b_units : Is (from_b a b) R
  from_b_units = sub_units (add binary64 a b) a S A hi_units p.is room.step_b

  of_b_units : Representable (B -ℤ R) → Is (lost_of_b a b) (B -ℤ R)
  of_b_units r = sub_exact b (from_b a b) B R q.is from_b_units room.lose_b r

  ordered_units : nat_abs B ≤ nat_abs A → Is (lost_of_b a b) (A +ℤ B -ℤ S)
  ordered_units o =
      let e : R ≡ S -ℤ A = rounded_exact (S -ℤ A) (less_larger A B p.representable q.representable o) in
      let d : A +ℤ B -ℤ S ≡ B -ℤ R = omega (arith, ints) in
      subst (λ (k : ℤ). Is (lost_of_b a b) k) (sym d) (of_b_units (subst Representable d (lacking A B p.representable q.representable)))

  lost_units : Is (lost a b) (A +ℤ B -ℤ S)
  lost_units =
      let s = steps A B p.representable q.representable in
      let u = sub_exact (add binary64 a b) (from_b a b) S R hi_units from_b_units room.step_a s.first in
      let v = sub_exact a (from_a a b) A (S -ℤ R) p.is u room.lose_a s.a_part in
      subst (λ (k : ℤ). Is (lost a b) k) sum
      (add_exact (lost_of_b a b) (lost_of_a a b) (B -ℤ R) (A -ℤ (S -ℤ R)) (of_b_units s.b_part) v room.lose (subst Representable (sym sum) s.lacks))
    where
      sum : B -ℤ R +ℤ (A -ℤ (S -ℤ R)) ≡ A +ℤ B -ℤ S
      sum = omega (arith, ints)

-- lo is what the rounded sum lacks
exact_sum : (a b lo : Float) (p : Term a (units a)) (q : Term b (units b)) → T (fits binary64 lo) → Is lo (units a +ℤ units b -ℤ roundedℤ (units a +ℤ units b)) → ExactSum a b (add binary64 a b) lo
exact_sum a b lo p q f l =
    let h = hi_units a b (units a) (units b) p q in
    let s = roundedℤ (units a +ℤ units b) in
    record {
      rounded = refl;
      hi_finite = is_finite (add binary64 a b) s h;
      lo_finite = is_finite lo (units a +ℤ units b -ℤ s) l;
      exact = whole _ _ (units a) (units b) s (is_units (add binary64 a b) s (add-fits binary64 a b) h) (is_units lo (units a +ℤ units b -ℤ s) f l);
    }
  where
    whole : (h l x y s : ℤ) → h ≡ s → l ≡ x +ℤ y -ℤ s → h +ℤ l ≡ x +ℤ y
    whole h l x y s e f = omega (arith, ints)

term : (x : Float) → fits binary64 x ≡ true → Moderate x → Term x (units x)
term x f m = let k = known x (subst T (sym f) tt) m.number in record { is = k.is; representable = k.representable; room = omega (arith, m.size, most_within) }

-- hi and lo are what the code computes
module _ (a b hi lo : Float) (f : fits binary64 a ≡ true) (g : fits binary64 b ≡ true) (m : Moderate a) (n : Moderate b) (h : hi ≡ add binary64 a b) where
  pub ordered_pair : lo ≡ lost_of_b a b → nat_abs (units b) ≤ nat_abs (units a) → ExactSum a b hi lo
  ordered_pair l o =
      let p = term a f m in
      let q = term b g n in
      rw (h, l) (exact_sum a b (lost_of_b a b) p q (sub-fits binary64 b (from_b a b)) (ordered_units a b (units a) (units b) p q o))

  pub pair : lo ≡ lost a b → ExactSum a b hi lo
  pair l =
      let p = term a f m in
      let q = term b g n in
      rw (h, l) (exact_sum a b (lost a b) p q (add-fits binary64 (lost_of_b a b) (lost_of_a a b)) (lost_units a b (units a) (units b) p q))
