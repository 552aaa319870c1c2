-- The float sum of two finite floats depends on their values alone: the sum of fractions, in units of 2 ^ -1074, rounded once.
use Rattle.std.proofs.Common.{◌≡◌, ℕ, ◌+◌, ◌-◌, ◌*◌, ◌<◌, Bool, true, false, ℤ, sym, refl, ap, ◌∙◌, inl, inr, eq-zero-or-pos, lt_of_mul-lt-mul_right, mul-lt-mul_of_pos_right, mul-pos, arith, le-ltb, lt-ltb}
use mathlib.Core.Bool.{beq}
use native.Mathlib.Nat.{eq_of_mul-eq-mul_right}
use lib.Ieee.{Float, Format, nan, inf, fin, up, down, round, sum, add}
use lib.Ieee.Fits.{down_pos}
use lib.Ieee.Exact.{HasValue}
use lib.Ieee.Scale.{round_same}

pub sum_like : (f : Format) (s : Bool) (a b c : ℕ) → sum f s a s b c ≡ round f s (a + b) c
unfolding sum
sum_like f true a b c = refl
sum_like f false a b c = refl

pub sum_less : (f : Format) (s t : Bool) (a b c : ℕ) → beq s t ≡ false → a < b → sum f s a t b c ≡ round f t (b - a) c
unfolding sum
sum_less f s t a b c u l = rw (u, lt-ltb a b l) refl

pub sum_more : (f : Format) (s t : Bool) (a b c : ℕ) → beq s t ≡ false → b < a → sum f s a t b c ≡ round f s (a - b) c
unfolding sum
sum_more f true t a b c u l = rw (u, le-ltb a b (omega arith), lt-ltb b a l) refl
sum_more f false t a b c u l = rw (u, le-ltb a b (omega arith)) refl

pub sum_level : (f : Format) (s t : Bool) (a b c : ℕ) → beq s t ≡ false → a ≡ b → sum f s a t b c ≡ round f false 0 c
unfolding sum
sum_level f true t a b c u e = let z : a - b ≡ 0 = omega arith in rw (u, le-ltb a b (omega arith), le-ltb b a (omega arith), z) refl
sum_level f false t a b c u e = let z : a - b ≡ 0 = omega arith in rw (u, le-ltb a b (omega arith), z) refl

pub data Order (a b : ℕ) : Type 0 where
  less : a < b → Order a b
  level : a ≡ b → Order a b
  more : b < a → Order a b

pub order : (a b : ℕ) → Order a b
order a b = elim (eq-zero-or-pos (b - a)) [ inl z ↦ elim (eq-zero-or-pos (a - b)) [ inl y ↦ level (omega arith) | inr p ↦ more (omega arith) ] | inr p ↦ less (omega arith) ]

-- the same fractions over another denominator
module _ (f : Format) (c d : ℕ) (C : 0 < c) (D : 0 < d) where
  unlike : (s t : Bool) (a b a' b' : ℕ) → beq s t ≡ false → a * d ≡ a' * c → b * d ≡ b' * c → sum f s a t b c ≡ sum f s a' t b' d
  unlike s t a b a' b' u p q = elim (order a b) [
    | less l ↦
        let l' : a' < b' = lt_of_mul-lt-mul_right c (omega (arith, mul-lt-mul_of_pos_right l D)) in
        let e : b - a + a ≡ b = omega arith in
        let e' : b' - a' + a' ≡ b' = omega arith in
        sum_less f s t a b c u l ∙ round_same f t (b - a) c (b' - a') d C D (omega (arith, ap (λ (k : ℕ). k * d) e, ap (λ (k : ℕ). k * c) e')) ∙ sym (sum_less f s t a' b' d u l')
    | level e ↦
        let e' : a' ≡ b' = eq_of_mul-eq-mul_right c C a' b' (omega (arith, ap (λ (k : ℕ). k * d) e)) in
        sum_level f s t a b c u e ∙ round_same f false 0 c 0 d C D (omega arith) ∙ sym (sum_level f s t a' b' d u e')
    | more l ↦
        let l' : b' < a' = lt_of_mul-lt-mul_right c (omega (arith, mul-lt-mul_of_pos_right l D)) in
        let e : a - b + b ≡ a = omega arith in
        let e' : a' - b' + b' ≡ a' = omega arith in
        sum_more f s t a b c u l ∙ round_same f s (a - b) c (a' - b') d C D (omega (arith, ap (λ (k : ℕ). k * d) e, ap (λ (k : ℕ). k * c) e')) ∙ sym (sum_more f s t a' b' d u l')
  ]

  like : (s : Bool) (a b a' b' : ℕ) → a * d ≡ a' * c → b * d ≡ b' * c → sum f s a s b c ≡ sum f s a' s b' d
  like s a b a' b' p q = sum_like f s a b c ∙ round_same f s (a + b) c (a' + b') d C D (omega arith) ∙ sym (sum_like f s a' b' d)

  pub sum_same : (s t : Bool) (a b a' b' : ℕ) → a * d ≡ a' * c → b * d ≡ b' * c → sum f s a t b c ≡ sum f s a' t b' d
  sum_same true true a b a' b' p q = like true a b a' b' p q
  sum_same false false a b a' b' p q = like false a b a' b' p q
  sum_same true false a b a' b' p q = unlike true false a b a' b' refl p q
  sum_same false true a b a' b' p q = unlike false true a b a' b' refl p q

opened : (f : Format) (s t : Bool) (m n : ℕ) (e d : ℤ) → add f (fin s m e) (fin t n d) ≡ sum f s (m * up e * down d) t (n * up d * down e) (down e * down d)
unfolding add
opened f s t m n e d = refl

-- x is g / c in size and y is h / c
pub add_values : (f : Format) (c : ℕ) → 0 < c → (x y : Float) (s t : Bool) (g h : ℕ) → HasValue x s g c → HasValue y t h c → add f x y ≡ sum f s g t h c
add_values f c C nan y s t g h v w = absurd v
add_values f c C (inf a) y s t g h v w = absurd v
add_values f c C (fin a m e) nan s t g h v w = absurd w
add_values f c C (fin a m e) (inf b) s t g h v w = absurd w
add_values f c C (fin a m e) (fin b n d) s t g h v w =
    opened f a b m n e d
    ∙ sum_same f (down e * down d) c (mul-pos (down_pos e) (down_pos d)) C a b (m * up e * down d) (n * up d * down e) g h
    (omega (arith, ap (λ (z : ℕ). z * down d) v.1)) (omega (arith, ap (λ (z : ℕ). z * down e) w.1))
    ∙ (λ i. sum f (v.0 i) g (w.0 i) h c)
