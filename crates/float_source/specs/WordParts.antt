-- A word as two floats. Its halves of 32 bits are floats, so their exact sum holds it: the nearest float, and what that lacks.
use Rattle.std.specs.Prelude.{◌≡◌, ℕ, suc, ◌+◌, ◌*◌, ◌/◌, ◌%◌, ◌^◌, ◌<◌, ◌≤◌, true, false, T, ℤ, pos, negsuc, ◌+ℤ◌, ◌-ℤ◌, from_bits, unsigned_abs, Float}
use Rattle.std.proofs.Math.Path.{refl, subst}
use Rattle.std.proofs.Common.{sym, ap, ◌∙◌, le_trans, mul-one, mul_assoc, lt_of_lt_of_le, mul-lt-mul_of_pos_right, arith, lit<, lit≤, pow_pos}
use Rattle.std.proofs.Math.Nat.{mul-le-mul_right}
use Rattle.std.specs.Float.Ieee.{binary64, add, round, of_int, fits}
use Rattle.std.specs.Float.Ieee.Back.{round_whole}
use Rattle.std.specs.Float.Ieee.Fits.{mul-fits, of_int-fits}
use Rattle.std.specs.Float.Ieee.Exact.{HasValue, round_exact}
use Rattle.std.proofs.lemmas.Int.{ints}
use Rattle.floats.specs.Units.{unit, most, units, Moderate}
use Rattle.floats.specs.ExactSum.{ExactSum}
use Rattle.floats.specs.Near.{Near}
use Rattle.floats.specs.Holds.{Holds}
use Rattle.floats.proofs.Grid.{Representable}
use Rattle.floats.proofs.Nearest.{rounded, roundedℤ, rounded_exact, lacking}
use Rattle.floats.proofs.Values.{capacity, most_within, Is, known, is_finite, is_units, one_count, round_units, add_units}
use Rattle.floats.proofs.Nearness.{near_one, near_alike}
use Rattle.floats.proofs.Fractions.{rescale, add_fractions, mul_fractions}
use Rattle.floats.proofs.Operations.{unit_large, rounded_fraction}
use Rattle.sources.specs.Source.{Word}
use Rattle.float_source.specs.FloatProposal.{nearest_float, held_high, held_low, upper, lower, Held}
use Rattle.float_source.specs.Constants.{place_value}

-- Whole floats.

whole : (n : ℕ) → n ≤ 2 ^ 53 → HasValue (of_int binary64 (pos n)) false n 1
unfolding of_int
whole n h = round_whole binary64 false n h

is_whole : (x : Float) (a : ℕ) → HasValue x false a 1 → Is x (pos (a * unit))
is_whole x a v = record { negative = false; count = a * unit; value = rescale x false a 1 (a * unit) unit (lit< tt) (mul-one (a * unit)) v; is = refl }

within_most : (a : ℕ) → a ≤ 2 ^ 64 → a * unit ≤ most
unfolding unit most
within_most a h = le_trans (mul-le-mul_right (2 ^ 1074) h) (lit≤ tt)

moderate : (x : Float) (a : ℕ) → units x ≡ pos (a * unit) → HasValue x false a 1 → a ≤ 2 ^ 64 → Moderate x
moderate x a e v h = record { number = is_finite x (pos (a * unit)) (is_whole x a v); size = subst (λ (z : ℤ). unsigned_abs z ≤ most) (sym e) (within_most a h) }

-- The halves of a word.

in_place : (n : ℕ) → n < 2 ^ 53 → HasValue (round binary64 false (n * 2 ^ 32) 1) false (n * 2 ^ 32) 1
in_place n h = round_exact binary64 false (n * 2 ^ 32) 1 n 1106 (lit< tt) h (lt_of_lt_of_le (mul-lt-mul_of_pos_right h (pow_pos 1106)) (lit≤ tt)) (mul_assoc n (2 ^ 32) (2 ^ 1074) ∙ sym (mul-one (n * 2 ^ 1106)))

upper_value : (w : ℕ) → w < 2 ^ 64 → HasValue (upper w) false (w / 2 ^ 32 * 2 ^ 32) 1
upper_value w h =
    subst (λ (x : Float). HasValue x false (w / 2 ^ 32 * 2 ^ 32) 1)
    (sym (mul_fractions binary64 (of_int binary64 (pos (w / 2 ^ 32))) (from_bits binary64 0x41f0_0000_0000_0000) (w / 2 ^ 32) (2 ^ 32) 1 1 (lit< tt) (lit< tt) (whole (w / 2 ^ 32) (omega arith)) place_value))
    (in_place (w / 2 ^ 32) (omega arith))

lower_value : (w : ℕ) → HasValue (lower w) false (w % 2 ^ 32) 1
lower_value w = whole (w % 2 ^ 32) (omega arith)

pub record Halves (w : ℕ) : Type 0 where
  pub first : Moderate (upper w)
  pub second : Moderate (lower w)
  pub ordered : unsigned_abs (units (lower w)) ≤ unsigned_abs (units (upper w))
  pub rounded : add binary64 (upper w) (lower w) ≡ held_high w
  pub exact : units (upper w) +ℤ units (lower w) ≡ pos (w * unit)

pub halves : (w : ℕ) → Word w → Halves w
unfolding held_high of_int
halves w word =
    let lo = word.least in
    let hi = word.most in
    let u = upper_value w hi in
    let l = lower_value w in
    let x : units (upper w) ≡ pos (w / 2 ^ 32 * 2 ^ 32 * unit) = is_units (upper w) (pos (w / 2 ^ 32 * 2 ^ 32 * unit)) (mul-fits binary64 (of_int binary64 (pos (w / 2 ^ 32))) (from_bits binary64 0x41f0_0000_0000_0000)) (is_whole (upper w) (w / 2 ^ 32 * 2 ^ 32) u) in
    let y : units (lower w) ≡ pos (w % 2 ^ 32 * unit) = is_units (lower w) (pos (w % 2 ^ 32 * unit)) (of_int-fits binary64 (pos (w % 2 ^ 32))) (is_whole (lower w) (w % 2 ^ 32) l) in
    let e : w / 2 ^ 32 * 2 ^ 32 + w % 2 ^ 32 ≡ w = omega arith in
    let o : w % 2 ^ 32 * unit ≤ w / 2 ^ 32 * 2 ^ 32 * unit = mul-le-mul_right unit (omega arith) in
    record {
      first = moderate (upper w) (w / 2 ^ 32 * 2 ^ 32) x u (omega arith);
      second = moderate (lower w) (w % 2 ^ 32) y l (omega arith);
      ordered = subst (λ (z : ℤ). unsigned_abs z ≤ unsigned_abs (units (upper w))) (sym y) (subst (λ (z : ℤ). w % 2 ^ 32 * unit ≤ unsigned_abs z) (sym x) o);
      rounded = add_fractions binary64 (upper w) (lower w) (w / 2 ^ 32 * 2 ^ 32) (w % 2 ^ 32) 1 (lit< tt) u l ∙ ap (λ (z : ℕ). round binary64 false z 1) e;
      exact = (λ i. x i +ℤ y i) ∙ ap pos (let d : w / 2 ^ 32 * 2 ^ 32 * unit + w % 2 ^ 32 * unit ≡ w * unit = omega (arith, ap (λ (z : ℕ). z * unit) e) in d);
    }

-- u and l are the halves, as the code computes them
module _ (w : ℕ) (word : Word w) (u l : Float) (e : u ≡ upper w) (f : l ≡ lower w) where
  pub first_moderate : Moderate u
  first_moderate = subst Moderate (sym e) (halves w word).first

  pub second_moderate : Moderate l
  second_moderate = subst Moderate (sym f) (halves w word).second

  pub in_order : unsigned_abs (units l) ≤ unsigned_abs (units u)
  in_order = subst (λ (x : Float). unsigned_abs (units l) ≤ unsigned_abs (units x)) (sym e) (subst (λ (x : Float). unsigned_abs (units x) ≤ unsigned_abs (units (upper w))) (sym f) (halves w word).ordered)

  pub held_by : (hi lo : Float) → ExactSum u l hi lo → Held w hi lo
  held_by hi lo s =
      let h = halves w word in
      record {
        nearest = s.rounded ∙ (λ i. add binary64 (e i) (f i)) ∙ h.rounded;
        lo_finite = s.lo_finite;
        exact = s.exact ∙ (λ i. units (e i) +ℤ units (f i)) ∙ h.exact;
      }

-- The parts by their units.

nearest_is : (z : ℤ) → Representable z → unsigned_abs z ≤ capacity → Is (nearest_float z) z
nearest_is (pos n) p l = record { negative = false; count = rounded n; value = round_units false n l; is = sym (rounded_exact (pos n) p) }
nearest_is (negsuc n) p l = record { negative = true; count = rounded (suc n); value = round_units true (suc n) l; is = sym (rounded_exact (negsuc n) p) }

-- the float nearest to w is `high` units, and it lacks `low`
pub record Parts (w : ℕ) : Type 0 where
  pub high : ℕ
  pub low : ℤ
  pub high_holds : Holds (held_high w) high
  pub high_near : Near 1 (2 ^ 53) high (w * unit)
  pub low_is : Is (held_low w) low
  pub exact : pos high +ℤ low ≡ pos (w * unit)

module _ (w : ℕ) (word : Word w) where
  -- what the rounded sum of the halves lacks
  lack_representable : (h : Halves w) (g : ℕ) → Is (held_high w) (pos g) → Representable (pos (w * unit) -ℤ pos g)
  lack_representable h g q =
      let a = known (upper w) (mul-fits binary64 (of_int binary64 (pos (w / 2 ^ 32))) (from_bits binary64 0x41f0_0000_0000_0000)) h.first.number in
      let b = known (lower w) (of_int-fits binary64 (pos (w % 2 ^ 32))) h.second.number in
      let A = units (upper w) in
      let B = units (lower w) in
      let s : Is (held_high w) (roundedℤ (A +ℤ B)) = subst (λ (x : Float). Is x (roundedℤ (A +ℤ B))) h.rounded (add_units (upper w) (lower w) A B a.is b.is (omega (arith, h.first.size, h.second.size, most_within))) in
      let e : roundedℤ (A +ℤ B) ≡ pos g = one_count (held_high w) (roundedℤ (A +ℤ B)) (pos g) s q in
      subst Representable (λ i. h.exact i -ℤ e i) (lacking A B a.representable b.representable)

  low_holds : (g : ℕ) → Is (held_high w) (pos g) → Near 1 (2 ^ 53) g (w * unit) → units (held_high w) ≡ pos g → Is (held_low w) (pos (w * unit) -ℤ pos g)
  unfolding held_low
  low_holds g q n e =
      let m = within_most w (omega (arith, word.most)) in
      let a = near_alike 1 (2 ^ 53) g (w * unit) (lit< tt) (lit≤ tt) n in
      subst (λ (z : ℤ). Is (nearest_float (pos (w * unit) -ℤ z)) (pos (w * unit) -ℤ pos g)) (sym e)
      (nearest_is (pos (w * unit) -ℤ pos g) (lack_representable (halves w word) g q) (omega (arith, ints, a.most, most_within)))

  pub parts : Parts w
  unfolding held_high of_int
  parts =
      let r = rounded_fraction w 1 (lit< tt) (omega (arith, mul-le-mul_right unit word.least, unit_large)) (omega (arith, word.most)) in
      let g = r.count in
      let n = near_one 1 (2 ^ 53) g (w * unit) r.near in
      let q : Is (held_high w) (pos g) = record { negative = false; count = g; value = r.holds; is = refl } in
      let e = is_units (held_high w) (pos g) (of_int-fits binary64 (pos w)) q in
      record {
        high = g;
        low = pos (w * unit) -ℤ pos g;
        high_holds = r.holds;
        high_near = n;
        low_is = low_holds g q n e;
        exact = omega (arith, ints);
      }

-- a float that makes up the word together with the nearest one is `low` units too
module _ (w : ℕ) (p : Parts w) where
  high_units : units (held_high w) ≡ pos p.high
  unfolding held_high
  high_units = is_units (held_high w) (pos p.high) (of_int-fits binary64 (pos w)) (record { negative = false; count = p.high; value = p.high_holds; is = refl })

  rest : (h l m : ℤ) (g t : ℕ) → h ≡ pos g → h +ℤ l ≡ pos t → pos g +ℤ m ≡ pos t → l ≡ m
  rest h l m g t a b c = omega (arith, ints)

  pub same_low : (hi lo : Float) → T (fits binary64 lo) → Held w hi lo → Is lo p.low
  same_low hi lo f h =
      let u : units hi ≡ pos p.high = ap units h.nearest ∙ high_units in
      subst (Is lo) (rest (units hi) (units lo) p.low p.high (w * unit) u h.exact p.exact) (known lo f h.lo_finite).is
