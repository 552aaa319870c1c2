-- A head is the computed one: from 2 ^ 62 * 2 ^ 1074 <= g * 4 ^ a < 2 ^ 64 * 2 ^ 1074, for a float of g units, the size of g
-- tells a, and then the word.
use Rattle.std.proofs.Common.{◌≡◌, ℕ, zero, suc, ◌+◌, ◌-◌, ◌*◌, ◌/◌, ◌^◌, ◌<◌, ◌≤◌, Bool, false, T, nat_abs, sym, ap, ◌∙◌, subst, lt_of_lt_of_le, lt_of_le_of_lt, mul-le-mul_right, mul-lt-mul_of_pos_right, lt_of_not-le, not-le_of_lt, mul-div_cancel, arith, lit<, pow_pos, pow_mono, pow-add}
use lib.Ieee.{Float, nan, inf, fin, binary64, fits, size}
use lib.Ieee.Digits.{size-lt, size_reaches}
use lib.Ieee.Exact.{HasValue}
use lib.Ieee.Scale.{finite}
use Rattle.exact.proofs.Ulps.{four_is}
use Rattle.floats.specs.Units.{unit, units, signed}
use Rattle.floats.specs.Holds.{Holds}
use Rattle.floats.proofs.Values.{known, unit_positive}
use Rattle.head.specs.Head.{head_word, head_places, HeadIsComputed}
use Rattle.head.proofs.Heads.{cross}

power_order : (a b : ℕ) → 2 ^ a < 2 ^ b → a < b
power_order a b h = lt_of_not-le (λ (g : b ≤ a). not-le_of_lt h (pow_mono g))

-- the size of a number between two powers, moved by 2 * a places
size_least : (g a m : ℕ) → 2 ^ m ≤ g * 2 ^ (2 * a) → m < size g + 2 * a
size_least g a m h =
    power_order m (size g + 2 * a)
    (lt_of_le_of_lt h (subst (λ (x : ℕ). g * 2 ^ (2 * a) < x) (sym (pow-add 2 (size g) (2 * a))) (mul-lt-mul_of_pos_right (size-lt g) (pow_pos (2 * a)))))

size_most : (g a m : ℕ) → g * 2 ^ (2 * a) < 2 ^ m → 0 < g → size g + 2 * a ≤ m
size_most g a m h p =
    let s : 0 < size g = lt_of_not-le (λ (z : size g ≤ 0). not-le_of_lt (lt_of_lt_of_le (size-lt g) (pow_mono {i = size g} {j = 0} z)) p) in
    let j = size g - 1 in
    let l : 2 ^ j * 2 ^ (2 * a) ≤ g * 2 ^ (2 * a) = mul-le-mul_right (2 ^ (2 * a)) (size_reaches g j (omega arith)) in
    let o = power_order (j + 2 * a) m (lt_of_le_of_lt (subst (λ (x : ℕ). x ≤ g * 2 ^ (2 * a)) (sym (pow-add 2 j (2 * a))) l) h) in
    omega arith

module _ (g w a : ℕ) (counted : g * 4 ^ a ≡ w * unit) (least : 2 ^ 62 ≤ w) (most : w < 2 ^ 64) where
  moved : g * 2 ^ (2 * a) ≡ w * unit
  moved = ap (λ (x : ℕ). g * x) (sym (four_is a)) ∙ counted

  low : 2 ^ 1136 ≤ g * 2 ^ (2 * a)
  unfolding unit
  low = subst (λ (x : ℕ). 2 ^ 1136 ≤ x) (sym moved) (mul-le-mul_right (2 ^ 1074) least)

  high : g * 2 ^ (2 * a) < 2 ^ 1138
  unfolding unit
  high = subst (λ (x : ℕ). x < 2 ^ 1138) (sym moved) (mul-lt-mul_of_pos_right most (pow_pos 1074))

  positive : 0 < g
  positive = some g low
    where
      some : (g : ℕ) → 2 ^ 1136 ≤ g * 2 ^ (2 * a) → 0 < g
      some zero h = absurd (not-le_of_lt (lit< tt) (subst (λ (x : ℕ). 2 ^ 1136 ≤ x) (zero_times (2 ^ (2 * a))) h))
        where
          zero_times : (x : ℕ) → 0 * x ≡ 0
          zero_times x = omega arith
      some (suc g) h = omega arith

  places : (1138 - size g) / 2 ≡ a
  places = omega (arith, size_least g a 1136 low, size_most g a 1138 high positive)

  word : g * 4 ^ ((1138 - size g) / 2) / unit ≡ w
  word = ap (λ (x : ℕ). x / unit) (ap (λ (x : ℕ). g * 4 ^ x) places ∙ counted) ∙ mul-div_cancel w unit_positive

-- a float with a head is finite and not negative
module _ (h : Float) (w a : ℕ) (v : HasValue h false w (4 ^ a)) where
  is_finite : T (finite h)
  is_finite = go h v
    where
      go : (x : Float) → HasValue x false w (4 ^ a) → T (finite x)
      go nan u = absurd u
      go (inf s) u = absurd u
      go (fin s m e) u = tt

  not_negative : (s : Bool) (g : ℕ) → HasValue h s g unit → s ≡ false
  not_negative s g u = go h v u
    where
      go : (x : Float) → HasValue x false w (4 ^ a) → HasValue x s g unit → s ≡ false
      go nan p q = absurd p
      go (inf t) p q = absurd p
      go (fin t m e) p q = sym q.0 ∙ p.0

  -- its number of units
  holds_units : T (fits binary64 h) → Holds h (nat_abs (units h))
  holds_units f =
      let k = (known h f is_finite).is in
      let s = not_negative k.negative k.count k.value in
      let c : nat_abs (units h) ≡ k.count = ap nat_abs (k.is ∙ ap (λ (b : Bool). signed b k.count) s) in
      subst (λ (g : ℕ). HasValue h false g unit) (sym c) (subst (λ (b : Bool). HasValue h b k.count unit) s k.value)

pub head_computed : HeadIsComputed
unfolding head_word head_places
head_computed h w a f p =
    let g = nat_abs (units h) in
    let e : g * 4 ^ a ≡ w * unit = cross h g unit w (4 ^ a) (holds_units h w a p.value f) p.value in
    (word g w a e p.least p.most, places g w a e p.least p.most)
