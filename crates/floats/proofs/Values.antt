-- Finite floats by their units: a sum or difference of floats is the rounded sum or difference of their units, whatever the signs, as long as it stays below 2 ^ 1022.
use Rattle.std.proofs.Common.{◌≡◌, ℕ, zero, suc, ◌+◌, ◌-◌, ◌*◌, ◌/◌, ◌%◌, ◌^◌, ◌<◌, ◌≤◌, Bool, true, false, not, ◌&&◌, T, eqb, ltb, leb, ℤ, pos, negsuc, ◌+ℤ◌, ◌-ℤ◌, neg_ℤ, nat_abs, sym, refl, ap, ◌∙◌, subst, le_trans, lt_of_lt_of_le, le_of_suc-le-suc, lt_of_le_of_lt, lt_irrefl, mul_assoc, mul-pos, one-mul, lt_of_not-le, mul-one, mul-div_cancel, arith, lit<, lit≤, eqb→eq, ltb→lt, leb→le, pow_pos, pow-add, shl_lt}
use native.Mathlib.Nat.{eq_of_mul-eq-mul_right}
use lib.Pow.{pow-lt}
use lib.Ieee.{Float, nan, inf, fin, binary64, up, down, size, round, sum, add, sub, neg, fits}
use lib.Ieee as Ieee
use lib.Ieee.Fits.{down_pos, up_pos, round_is, and_l, and_r}
use lib.Ieee.Exact.{HasValue, units_val}
use lib.Ieee.Nearest.{closest, closest_same}
use lib.Ieee.Scale.{finite}
use Rattle.std.proofs.lemmas.Int.{ints}
use Rattle.floats.specs.Units.{unit, most, signed, units}
use Rattle.floats.proofs.Grid.{Short, Representable, excess, on_grid, zero_short}
use Rattle.floats.proofs.Nearest.{rounded, roundedℤ, near_low, rounded_opposite}
use Rattle.floats.proofs.Sums.{less, level, more, order, sum_like, sum_less, sum_level, sum_more, add_values}

-- 2 ^ 1022 in units: what is at most this does not overflow when rounded
unfoldable pub capacity : ℕ
capacity = 2 ^ 2096

pub most_within : 4096 * most ≤ capacity
unfolding most capacity
most_within = lit≤ tt

pub unit_positive : 0 < unit
unfolding unit
unit_positive = pow_pos 1074

-- x is finite, and z units
pub record Is (x : Float) (z : ℤ) : Type 0 where
  pub negative : Bool
  pub count : ℕ
  pub value : HasValue x negative count unit
  pub is : z ≡ signed negative count

-- Rounding a number of units.

at_unit : (n : ℕ) → n * 2 ^ 1074 / unit ≡ n
unfolding unit
at_unit n = mul-div_cancel n (pow_pos 1074)

closest_unit : (n k : ℕ) → closest (n * 2 ^ 1074) (unit * 2 ^ k) ≡ closest n (2 ^ k)
unfolding unit
closest_unit n k = closest_same (n * 2 ^ 1074) (2 ^ 1074 * 2 ^ k) n (2 ^ k) (mul-pos (pow_pos 1074) (pow_pos k)) (pow_pos k) (mul_assoc n (2 ^ 1074) (2 ^ k))

round_place : (s : Bool) (n : ℕ) → round binary64 s n unit ≡ Ieee.units binary64 s (closest n (2 ^ excess n)) (excess n)
round_place s n =
    round_is binary64 s n unit
    ∙ ap (λ (k : ℕ). Ieee.units binary64 s (closest (n * 2 ^ 1074) (unit * 2 ^ k)) k) (ap (λ (m : ℕ). size m - 53) (at_unit n))
    ∙ ap (λ (q : ℕ). Ieee.units binary64 s q (excess n)) (closest_unit n (excess n))

no_overflow : (n : ℕ) → n ≤ 2 * capacity → n < 2 ^ 2098
unfolding capacity
no_overflow n h = lt_of_le_of_lt h (lit< tt)

pub round_units : (s : Bool) (n : ℕ) → n ≤ capacity → HasValue (round binary64 s n unit) s (rounded n) unit
unfolding unit
round_units s n h =
    let u : rounded n < 2 ^ 2098 = no_overflow (rounded n) (omega (arith, near_low 0 n zero_short (omega arith))) in
    subst (λ (x : Float). HasValue x s (rounded n) (2 ^ 1074)) (sym (round_place s n)) (units_val binary64 s (closest n (2 ^ excess n)) (excess n) u)

-- The rounded sum.

made : (x : Float) (s : Bool) (n : ℕ) (z : ℤ) → x ≡ round binary64 s n unit → n ≤ capacity → z ≡ signed s (rounded n) → Is x z
made x s n z e l q = record { negative = s; count = rounded n; value = subst (λ (y : Float). HasValue y s (rounded n) unit) (sym e) (round_units s n l); is = q }

module _ (s t : Bool) (g h : ℕ) where
  abbrev Summed : Type 0
  Summed = Is (sum binary64 s g t h unit) (roundedℤ (signed s g +ℤ signed t h))

  above_zero : (n : ℕ) → n ≤ capacity → sum binary64 s g t h unit ≡ round binary64 false n unit → signed s g +ℤ signed t h ≡ pos n → Summed
  above_zero n l e q = made _ false n _ e l (ap roundedℤ q)

  below_zero : (n : ℕ) → n ≤ capacity → sum binary64 s g t h unit ≡ round binary64 true n unit → signed s g +ℤ signed t h ≡ neg_ℤ (pos n) → Summed
  below_zero n l e q = made _ true n _ e l (ap roundedℤ q ∙ rounded_opposite (pos n))

summed : (s t : Bool) (g h : ℕ) → g + h ≤ capacity → Summed s t g h
summed false false g h l = above_zero false false g h (g + h) l (sum_like binary64 false g h unit) refl
summed true true g h l = below_zero true true g h (g + h) l (sum_like binary64 true g h unit) (omega (arith, ints))
summed false true g h l = elim (order g h) [
  | less o ↦ below_zero false true g h (h - g) (omega arith) (sum_less binary64 false true g h unit refl o) (omega (arith, ints))
  | level o ↦ above_zero false true g h 0 (omega arith) (sum_level binary64 false true g h unit refl o) (omega (arith, ints))
  | more o ↦ above_zero false true g h (g - h) (omega arith) (sum_more binary64 false true g h unit refl o) (omega (arith, ints))
]
summed true false g h l = elim (order g h) [
  | less o ↦ above_zero true false g h (h - g) (omega arith) (sum_less binary64 true false g h unit refl o) (omega (arith, ints))
  | level o ↦ above_zero true false g h 0 (omega arith) (sum_level binary64 true false g h unit refl o) (omega (arith, ints))
  | more o ↦ below_zero true false g h (g - h) (omega arith) (sum_more binary64 true false g h unit refl o) (omega (arith, ints))
]

signed_size : (s : Bool) (n : ℕ) → nat_abs (signed s n) ≡ n
signed_size true n = omega (arith, ints)
signed_size false n = refl

pub add_units : (x y : Float) (z w : ℤ) → Is x z → Is y w → nat_abs z + nat_abs w ≤ capacity → Is (add binary64 x y) (roundedℤ (z +ℤ w))
add_units x y z w p q l =
    let a : nat_abs z ≡ p.count = ap nat_abs p.is ∙ signed_size p.negative p.count in
    let b : nat_abs w ≡ q.count = ap nat_abs q.is ∙ signed_size q.negative q.count in
    let r = summed p.negative q.negative p.count q.count (omega arith) in
    let e = add_values binary64 unit unit_positive x y p.negative q.negative p.count q.count p.value q.value in
    subst (λ (k : ℤ). Is (add binary64 x y) (roundedℤ k)) (λ i. sym p.is i +ℤ sym q.is i)
    (subst (λ (k : Float). Is k (roundedℤ (signed p.negative p.count +ℤ signed q.negative q.count))) (sym e) r)

-- The opposite, and the rounded difference.

opposite_value : (x : Float) (s : Bool) (n : ℕ) → HasValue x s n unit → HasValue (neg x) (not s) n unit
unfolding neg
opposite_value nan s n v = absurd v
opposite_value (inf t) s n v = absurd v
opposite_value (fin t m e) s n v = (ap not v.0, v.1)

opposite_signed : (s : Bool) (n : ℕ) → neg_ℤ (signed s n) ≡ signed (not s) n
opposite_signed true n = omega (arith, ints)
opposite_signed false n = refl

pub neg_units : (x : Float) (z : ℤ) → Is x z → Is (neg x) (neg_ℤ z)
neg_units x z p = record {
  negative = not p.negative;
  count = p.count;
  value = opposite_value x p.negative p.count p.value;
  is = ap neg_ℤ p.is ∙ opposite_signed p.negative p.count;
}

sub_is : (x y : Float) → sub binary64 x y ≡ add binary64 x (neg y)
unfolding sub
sub_is x y = refl

pub sub_units : (x y : Float) (z w : ℤ) → Is x z → Is y w → nat_abs z + nat_abs w ≤ capacity → Is (sub binary64 x y) (roundedℤ (z -ℤ w))
sub_units x y z w p q l =
    let n : nat_abs (neg_ℤ w) ≡ nat_abs w = omega (arith, ints) in
    subst (λ (k : Float). Is k (roundedℤ (z -ℤ w))) (sym (sub_is x y)) (add_units x (neg y) z (neg_ℤ w) p (neg_units y w q) (omega arith))

-- A float that fits its format has 53 bits, and its units are `units`.

power_le : (a b : ℕ) → 2 ^ a ≤ 2 ^ b → a ≤ b
power_le a b h = le_of_suc-le-suc (lt_of_not-le (λ (g : suc b ≤ a). lt_irrefl (2 ^ b) (lt_of_lt_of_le (pow-lt g) h)))

-- 2 ^ e is 2 ^ j units
place : (e : ℤ) → down e ≤ 2 ^ 1074 → (j : ℕ) × (up e * unit ≡ 2 ^ j * down e)
unfolding unit
place (pos k) h = (k + 1074, sym (pow-add 2 k 1074) ∙ sym (mul-one (2 ^ (k + 1074))))
place (negsuc k) h =
    let l : suc k ≤ 1074 = power_le (suc k) 1074 h in
    (1074 - suc k, one-mul (2 ^ 1074) ∙ ap (λ (y : ℕ). 2 ^ y) {x = 1074} {y = 1074 - suc k + suc k} (omega arith) ∙ pow-add 2 (1074 - suc k) (suc k))

record Fitting (m : ℕ) (e : ℤ) : Type 0 where
  bits : m < 2 ^ 53
  least : down e ≤ 2 ^ 1074

at_most_one : (a b : ℕ) → a * b ≡ 1 → 0 < a → b ≤ 1
at_most_one zero b h p = absurd (omega arith)
at_most_one (suc a) b h p = omega arith

fitting : (s : Bool) (m : ℕ) (e : ℤ) → T (fits binary64 (fin s m e)) → Fitting m e
unfolding fits
fitting s zero e t = record { bits = omega arith; least = le_trans (at_most_one (up e) (down e) (eqb→eq (up e * down e) 1 t) (up_pos e)) (lit≤ tt) }
fitting s (suc m) e t =
    let a = eqb (suc m % 2) 1 in
    let b = ltb (suc m) (2 ^ 53) in
    let c = leb (down e) (2 ^ 1074) in
    let d = ltb (suc m * up e) (2 ^ 1024 * down e) in
    record {
      bits = ltb→lt (suc m) (2 ^ 53) (and_r a b (and_l (a && b) c (and_l (a && b && c) d t)));
      least = leb→le (down e) (2 ^ 1074) (and_r (a && b) c (and_l (a && b && c) d t));
    }

pub record Known (x : Float) : Type 0 where
  pub is : Is x (units x)
  pub representable : Representable (units x)

known_fin : (s : Bool) (m : ℕ) (e : ℤ) → Fitting m e → (j : ℕ) × (up e * unit ≡ 2 ^ j * down e) → Known (fin s m e)
unfolding units
known_fin s m e p (j, f) =
    let g = m * 2 ^ j in
    let h : m * up e * unit ≡ g * down e = mul_assoc m (up e) unit ∙ ap (λ (y : ℕ). m * y) f ∙ sym (mul_assoc m (2 ^ j) (down e)) in
    let k : m * up e * unit / down e ≡ g = ap (λ (y : ℕ). y / down e) h ∙ mul-div_cancel g (down_pos e) in
    record {
      is = record { negative = s; count = g; value = (refl, h); is = ap (signed s) k };
      representable = subst Short (sym (ap (λ (y : ℕ). nat_abs (signed s y)) k ∙ signed_size s g)) (on_grid g j (record { times = m; is = refl }) (shl_lt 53 j p.bits));
    }

pub known : (x : Float) → T (fits binary64 x) → T (finite x) → Known x
known nan f t = absurd t
known (inf s) f t = absurd t
known (fin s m e) f t = let d = fitting s m e f in known_fin s m e d (place e d.least)

-- A float has one number of units.

pub is_finite : (x : Float) (z : ℤ) → Is x z → T (finite x)
is_finite nan z p = p.value
is_finite (inf t) z p = p.value
is_finite (fin t m d) z p = tt

same_value : (x : Float) (s t : Bool) (g h : ℕ) → HasValue x s g unit → HasValue x t h unit → (s ≡ t) × (g ≡ h)
same_value nan s t g h v w = absurd v
same_value (inf a) s t g h v w = absurd v
same_value (fin a m e) s t g h v w = (sym v.0 ∙ w.0, eq_of_mul-eq-mul_right (down e) (down_pos e) g h (sym v.1 ∙ w.1))

pub one_count : (x : Float) (z w : ℤ) → Is x z → Is x w → z ≡ w
one_count x z w p q =
    let e = same_value x p.negative q.negative p.count q.count p.value q.value in
    p.is ∙ (λ i. signed (e.0 i) (e.1 i)) ∙ sym q.is

pub is_units : (x : Float) (z : ℤ) → T (fits binary64 x) → Is x z → units x ≡ z
is_units x z f p = one_count x (units x) z (known x f (is_finite x z p)).is p
