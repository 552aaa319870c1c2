-- How many places the head of a radicand has: the fewer, the larger it is.
use Rattle.std.proofs.Common.{◌≡◌, ℕ, zero, suc, ◌+◌, ◌-◌, ◌*◌, ◌^◌, ◌<◌, ◌≤◌, sym, refl, ap, ◌∙◌, subst, inl, inr, le_trans, le_of_eq, le_of_suc-le-suc, mul-le-mul_right, mul-le-mul, eq-or-lt_of_le, mul-le-mul_left, mul-lt-mul_of_pos_right, lt_of_not-le, le_of_mul-le-mul_right, arith, lit<, lit≤, pow_mono, pow-add}
use lib.Ieee.{Float, round, add, sub, mul, sum, neg, units}
use Rattle.floats.specs.Units.{unit}
use Rattle.floats.specs.Near.{Near}
use Rattle.floats.specs.Holds.{Holds}
use Rattle.floats.proofs.Values.{unit_positive}
use Rattle.head.specs.Side.{Full, scaled_side}
use Rattle.head.specs.Squares.{leg_radicand}
use Rattle.head.specs.Head.{Heads}
use Rattle.head.proofs.Powers.{four_pos, four_more}
use Rattle.head.proofs.Heads.{cross, head_unique}
use Rattle.head.proofs.Sides.{step, span}
use Rattle.head.proofs.FloatSums.{Sum}
use Rattle.head.proofs.Radicands.{steps, leg_sides_difference, leg_below}

-- h is R units
module _ (h : Float) (R w a : ℕ) (holds : Holds h R) (head : Heads h w a) where
  crossed : R * 4 ^ a ≡ w * unit
  crossed = cross h R unit w (4 ^ a) holds head.value

  -- h is at least 4 ^ -b
  pub places_most : (b : ℕ) → unit ≤ R * 4 ^ b → a ≤ 31 + b
  places_most b lo =
      le_of_suc-le-suc (lt_of_not-le (λ (g : suc (31 + b) ≤ a).
      let p : 4 * (4 ^ 31 * 4 ^ b) ≤ 4 ^ a = le_trans (le_of_eq (ap (λ (x : ℕ). 4 * x) (sym (pow-add 4 31 b)))) (four_more (31 + b) a g) in
      let q : w * unit < 2 ^ 64 * unit = mul-lt-mul_of_pos_right head.most unit_positive in
      omega (arith, mul-le-mul_left R p, mul-le-mul_right (2 ^ 64) lo, crossed, q)))

  -- h is below 16
  pub places_least : R < 16 * unit → 30 ≤ a
  places_least hi =
      lt_of_not-le (λ (g : a ≤ 29).
      let p : 4 * 4 ^ a ≤ 4 ^ 30 = four_more a 30 (omega arith) in
      let q : R * 4 ^ a < 16 * unit * 4 ^ a = mul-lt-mul_of_pos_right hi (four_pos a) in
      omega (arith, mul-le-mul_left unit p, q, crossed, mul-le-mul_right unit head.least))

pub sum_places : (h : Float) (error exact w a : ℕ) → Sum h error exact → Heads h w a → (30 ≤ a) × (a ≤ 31)
sum_places h error exact w a s head = (places_least h s.count w a s.holds head s.most, places_most h s.count w a s.holds head 0 (omega (arith, s.least)))

-- A leg is shortest where the sides are one last place apart. With 1 and the float below it that is 2 ^ -53, times their sum, which rounds up to 2:
-- 2 ^ -52, with 57 places. Otherwise the exact radicand is above 2 ^ -52 by a fourth at least.

closest : Heads (leg_radicand (2 ^ 52) (2 ^ 53 - 1) 1) (2 ^ 62) 57
unfolding scaled_side round add sub mul sum neg units
closest = record { value = (refl, refl); least = lit≤ tt; most = lit< tt }

enough : (R X : ℕ) → Near 7 (2 ^ 54) (R * unit) X → 5 * (unit * unit) ≤ X * 2 ^ 54 → unit ≤ R * 4 ^ 26
enough R X h l = le_of_mul-le-mul_right {k = unit} (omega (arith, h.below)) unit_positive

-- the sides are m * V and n * W units, with E for 2 ^ d
module _ (m n V W : ℕ) (f : Full m) (g : Full n) (p : V * (2 ^ 52 * 1) ≡ unit) where
  abbrev X : ℕ
  X = (m * V - n * W) * (m * V + n * W)

  first : unit ≤ m * V
  first = omega (arith, mul-le-mul_right V f.least)

  level : W * (2 ^ 52 * 1) ≡ unit → n < m → 5 * (unit * unit) ≤ X * 2 ^ 54
  level q o =
      let e : m * V ≡ m * W = ap (λ (z : ℕ). m * z) (steps V W 1 p q) ∙ omega arith in
      let a : n * W + W ≤ m * V = omega (arith, mul-le-mul_right W o) in
      let b : unit ≤ (m * V - n * W) * 2 ^ 52 = omega arith in
      let c : 2 * unit ≤ m * V + n * W = omega (arith, first, mul-le-mul_right W g.least) in
      omega (arith, mul-le-mul b c)

  halved : W * (2 ^ 52 * 2) ≡ unit → n + 2 ≤ m * 2 → 5 * (unit * unit) ≤ X * 2 ^ 54
  halved q o =
      let e : m * V ≡ m * 2 * W = ap (λ (z : ℕ). m * z) (steps V W 2 p q) ∙ omega arith in
      let a : n * W + 2 * W ≤ m * V = omega (arith, mul-le-mul_right W o) in
      let b : unit ≤ (m * V - n * W) * 2 ^ 52 = omega arith in
      let c : 3 * unit ≤ (m * V + n * W) * 2 = omega (arith, first, mul-le-mul_right W g.least) in
      omega (arith, mul-le-mul b c)

  lower : (E : ℕ) → W * (2 ^ 52 * E) ≡ unit → 4 ≤ E → 5 * (unit * unit) ≤ X * 2 ^ 54
  lower E q o =
      let a : n * W * 2 ≤ unit = omega (arith, mul-le-mul_left (W * 2 ^ 52) o, mul-le-mul_right W g.most) in
      let b : unit ≤ (m * V - n * W) * 2 = omega (arith, first) in
      let c : unit ≤ m * V + n * W = omega (arith, first) in
      omega (arith, mul-le-mul b c)

one_apart : (m n : ℕ) → Full m → n < 2 ^ 53 → n + 1 ≡ m * 2 → (m ≡ 2 ^ 52) × (n ≡ 2 ^ 53 - 1)
one_apart m n f g e = omega (arith, f.least)

pub leg_places : (m n d w a : ℕ) → Full m → Full n → d ≤ 28 → n < m * 2 ^ d → Heads (leg_radicand m n d) w a → a ≤ 57
leg_places m n d w a f g l o h = go d l o h
  where
    by : (d : ℕ) → (l : d ≤ 28) → (o : n < m * 2 ^ d) → Heads (leg_radicand m n d) w a → 5 * (unit * unit) ≤ (m * step 0 - n * step d) * (m * step 0 + n * step d) * 2 ^ 54 → a ≤ 57
    by d l o h x =
        let s = leg_sides_difference m n d f g l o in
        places_most (leg_radicand m n d) s.count w a s.holds h 26 (enough s.count ((m * step 0 - n * step d) * (m * step 0 + n * step d)) s.near x)

    nearest : n + 1 ≡ m * 2 → Heads (leg_radicand m n 1) w a → a ≤ 57
    nearest e h =
        let s = one_apart m n f g.most e in
        let k : Heads (leg_radicand (2 ^ 52) (2 ^ 53 - 1) 1) w a = subst (λ (z : ℕ). Heads (leg_radicand (2 ^ 52) z 1) w a) s.1 (subst (λ (z : ℕ). Heads (leg_radicand z n 1) w a) s.0 h) in
        le_of_eq (head_unique (leg_radicand (2 ^ 52) (2 ^ 53 - 1) 1) w a (2 ^ 62) 57 k closest).1

    go : (d : ℕ) → d ≤ 28 → n < m * 2 ^ d → Heads (leg_radicand m n d) w a → a ≤ 57
    go zero l o h = by 0 l o h (level m n (step 0) (step 0) f g (span 0 l) (span 0 l) (omega arith))
    go (suc zero) l o h = elim (eq-or-lt_of_le o) [
      | inl e ↦ nearest (omega arith) h
      | inr k ↦ by 1 l o h (halved m n (step 0) (step 1) f g (span 0 (lit≤ tt)) (span 1 l) (omega arith))
    ]
    go (suc (suc d)) l o h = by (suc (suc d)) l o h (lower m n (step 0) (step (suc (suc d))) f g (span 0 (lit≤ tt)) (2 ^ suc (suc d)) (span (suc (suc d)) l) (pow_mono {i = 2} {j = suc (suc d)} (omega arith)))

pub leg_places_least : (m n d w a : ℕ) → Full m → Full n → d ≤ 28 → n < m * 2 ^ d → Heads (leg_radicand m n d) w a → 30 ≤ a
leg_places_least m n d w a f g l o h =
    let s = leg_sides_difference m n d f g l o in
    places_least (leg_radicand m n d) s.count w a s.holds h (leg_below m n d f g l o)
