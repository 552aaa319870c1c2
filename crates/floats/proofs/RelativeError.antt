-- One rounding: in the normal range the nearest float is within 2 ^ -prec of the fraction, since half of a last place is that part of the least number with all digits. Everywhere it is at most twice the fraction.
use Rattle.std.proofs.Common.{◌≡◌, ℕ, zero, suc, ◌+◌, ◌-◌, ◌*◌, ◌/◌, ◌%◌, ◌^◌, ◌<◌, ◌≤◌, Bool, sym, ap, ◌∙◌, subst, le_trans, le_of_eq, lt_of_le_of_lt, mul-le-mul_right, mod-lt, mul_assoc, mul_comm, lt_of_mul-lt-mul_right, mul-lt-mul_of_pos_right, mul-pos, div-add-mod', le-div_iff_mul-le, arith, pow_pos, pow-add}
use Prim.Native.Nat.{compare, Ordering}
use native.Mathlib.Nat.{pow-succ'}
use lib.Ieee.{Float, Format, prec, emax, low, size, nearest, round}
use lib.Ieee.Digits.{size_reaches}
use lib.Ieee.Fits.{two, two-le_pos, round_is}
use lib.Ieee.Exact.{HasValue, units_val}
use lib.Ieee.Nearest.{closest}
use lib.Ieee.Order.{drop, kept}
use lib.Ieee.Scale.{grid, overflow, normal_of_fraction}
use Rattle.floats.proofs.Comparisons.{Compared, compared}
use Rattle.floats.specs.Near.{Near}

-- x is at most half of b from a, and at most twice a
record Half (a b x : ℕ) : Type 0 where
  above : x * 2 ≤ a * 2 + b
  below : a * 2 ≤ x * 2 + b
  twice : x ≤ a * 2

-- The nearest whole number to (q * b + r) / b.

tie : (q p b r : ℕ) → p < 2 → r * 2 ≡ b → Half (q * b + r) b ((q + p) * b)
tie q zero b r h e = record { above = omega arith; below = omega arith; twice = omega arith }
tie q (suc zero) b r h e = record { above = omega arith; below = omega arith; twice = omega arith }
tie q (suc (suc p)) b r h e = absurd (omega arith)

half : (q : ℕ) (o : Ordering) (b r : ℕ) → r < b → Compared o (r * 2) b → Half (q * b + r) b (nearest q o * b)
half q Ordering.lt b r l c = record { above = omega arith; below = omega arith; twice = omega arith }
half q Ordering.eq b r l c = tie q (q % 2) b r (omega arith) c
half q Ordering.gt b r l c = record { above = omega arith; below = omega arith; twice = omega arith }

closest_half : (a b : ℕ) → 0 < b → Half a b (closest a b * b)
closest_half a b B =
    subst (λ (x : ℕ). Half x b (closest a b * b)) (div-add-mod' a b)
    (half (a / b) (compare (a % b * 2) b) b (a % b) (mod-lt a B) (compared (a % b * 2) b))

-- The fraction is at least 2 ^ (p - 1) last places where it has all p digits.

last : (z p : ℕ) → 0 < p → p ≤ z → p - 1 + (z - p) < z
last z p P h = omega arith

reaches : (p n c : ℕ) → 0 < p → 0 < c → p ≤ size (n / c) → 2 ^ (p - 1) * 2 ^ drop p n c * c ≤ n
reaches p n c P C h =
    subst (λ (x : ℕ). x * c ≤ n) (pow-add 2 (p - 1) (drop p n c))
    ((le-div_iff_mul-le C).0 (size_reaches (n / c) (p - 1 + drop p n c) (last (size (n / c)) p P h)))

-- half of u is at most 1 / (2 * h) of n, where n is at least h of u
relative : (x n u h : ℕ) → Half n u x → h * u ≤ n → Near 1 (2 * h) x n
relative x n u h k l = record { above = omega (arith, mul-le-mul_right h k.above); below = omega (arith, mul-le-mul_right h k.below) }

double : (p : ℕ) → 0 < p → 2 * 2 ^ (p - 1) ≡ 2 ^ p
double zero P = absurd (omega arith)
double (suc p) P = ap (λ (x : ℕ). 2 * 2 ^ x) (omega arith) ∙ sym (pow-succ' 2 p)

-- In units of the format's smallest value, the rounded fraction is `grid f a c`.

module _ (f : Format) (a c : ℕ) (C : 0 < c) where
  abbrev scaled : ℕ
  scaled = a * 2 ^ low f

  -- how many digits of the scaled fraction are dropped
  abbrev dropped : ℕ
  dropped = drop (prec f) scaled c

  grid_half : Half scaled (c * 2 ^ dropped) (grid f a c * c)
  grid_half =
      let k = kept (prec f) scaled c in
      let e : k * (c * 2 ^ dropped) ≡ grid f a c * c = ap (λ (x : ℕ). k * x) (mul_comm c (2 ^ dropped)) ∙ sym (mul_assoc k (2 ^ dropped) c) in
      subst (λ (x : ℕ). Half scaled (c * 2 ^ dropped) x) e (closest_half scaled (c * 2 ^ dropped) (mul-pos C (pow_pos dropped)))

  pub grid_twice : grid f a c * c ≤ scaled * 2
  grid_twice = grid_half.twice

  -- `prec f ≤ size (a * 2 ^ low f / c)` says that a / c is in the normal range
  grid_near : prec f ≤ size (scaled / c) → Near 1 (2 ^ prec f) (grid f a c * c) scaled
  grid_near h =
      let p = prec f in
      let P : 0 < p = two-le_pos p (two f) in
      let e : 2 ^ (p - 1) * (c * 2 ^ dropped) ≡ 2 ^ (p - 1) * 2 ^ dropped * c = ap (λ (x : ℕ). 2 ^ (p - 1) * x) (mul_comm c (2 ^ dropped)) ∙ sym (mul_assoc (2 ^ (p - 1)) (2 ^ dropped) c) in
      subst (λ (d : ℕ). Near 1 d (grid f a c * c) scaled) (double p P)
      (relative (grid f a c * c) scaled (c * 2 ^ dropped) (2 ^ (p - 1)) grid_half (le_trans (le_of_eq e) (reaches p scaled c P C h)))

  -- no overflow for a fraction below 2 ^ emax
  grid_under : a < 2 ^ emax f * c → grid f a c < overflow f
  grid_under l = lt_of_mul-lt-mul_right c (lt_of_le_of_lt grid_twice (room (low f) (emax f) l))
    where
      room : (j e : ℕ) → a < 2 ^ e * c → a * 2 ^ j * 2 < 2 ^ (j + suc e) * c
      room j e h =
          let p : 2 ^ (j + suc e) ≡ 2 ^ j * (2 * 2 ^ e) = pow-add 2 j (suc e) ∙ ap (λ (x : ℕ). 2 ^ j * x) (pow-succ' 2 e) in
          let q : a * 2 ^ j < 2 ^ e * c * 2 ^ j = mul-lt-mul_of_pos_right h (pow_pos j) in
          rw p (omega arith)

  -- a / c rounded, for a / c < 2 ^ emax, in units of 2 ^ -low
  pub round_value : (s : Bool) → a < 2 ^ emax f * c → HasValue (round f s a c) s (grid f a c) (2 ^ low f)
  round_value s l =
      subst (λ (z : Float). HasValue z s (grid f a c) (2 ^ low f)) (sym (round_is f s a c))
      (units_val f s (kept (prec f) scaled c) dropped (grid_under l))

  -- and how near it is, for 2 ^ (prec - 1 - low) ≤ a / c
  pub round_near : 2 ^ (prec f - 1) * c ≤ scaled → Near 1 (2 ^ prec f) (grid f a c * c) scaled
  round_near l = grid_near (normal_of_fraction f a c C l)
