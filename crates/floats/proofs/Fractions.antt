-- The operations on finite floats by any fractions that the floats equal: each is the exact fraction, rounded once.
use Rattle.std.proofs.Common.{◌≡◌, ℕ, zero, suc, ◌+◌, ◌-◌, ◌*◌, ◌<◌, ◌≤◌, Bool, true, false, cond, not, eqb, ℤ, sym, refl, ap, ◌∙◌, subst, true≢false, lt_irrefl, zero-lt-suc, mul-pos, zero-mul, arith, ne_eqb}
use native.Mathlib.Nat.{eq_of_mul-eq-mul_right}
use lib.Ieee.{Float, nan, inf, fin, Format, up, down, round, sum, add, sub, mul, div, neg, unlike}
use lib.Ieee.Fits.{down_pos, up_pos}
use lib.Ieee.Exact.{HasValue}
use lib.Ieee.Scale.{round_same}
use Rattle.floats.proofs.Sums.{less, level, more, order, sum_like, sum_level, sum_more, add_values}

-- a fraction of the same size
pub rescale : (x : Float) (s : Bool) (w l num den : ℕ) → 0 < l → num * l ≡ w * den → HasValue x s w l → HasValue x s num den
rescale nan s w l num den p h v = v
rescale (inf t) s w l num den p h v = v
rescale (fin t m e) s w l num den p h v = (v.0, eq_of_mul-eq-mul_right l p (m * up e * den) (num * down e) (omega (arith, ap (λ (z : ℕ). z * den) v.1, ap (λ (z : ℕ). z * down e) h)))

-- x is a / c and y is b / c
pub add_fractions : (f : Format) (x y : Float) (a b c : ℕ) → 0 < c → HasValue x false a c → HasValue y false b c → add f x y ≡ round f false (a + b) c
add_fractions f x y a b c C h k = add_values f c C x y false false a b h k ∙ sum_like f false a b c

-- a difference that is not negative
difference : (f : Format) (a b c : ℕ) → b ≤ a → sum f false a true b c ≡ round f false (a - b) c
difference f a b c l = elim (order a b) [
  | less o ↦ absurd (omega arith)
  | level o ↦ let e : a - b ≡ 0 = omega arith in sum_level f false true a b c refl o ∙ ap (λ (z : ℕ). round f false z c) (sym e)
  | more o ↦ sum_more f false true a b c refl o
]

-- y taken away: x is a / c and y is -b / c
pub add_opposite : (f : Format) (x y : Float) (a b c : ℕ) → 0 < c → b ≤ a → HasValue x false a c → HasValue y true b c → add f x y ≡ round f false (a - b) c
add_opposite f x y a b c C l h k = add_values f c C x y false true a b h k ∙ difference f a b c l

opposite_value : (x : Float) (a c : ℕ) → HasValue x false a c → HasValue (neg x) true a c
unfolding neg
opposite_value nan a c v = absurd v
opposite_value (inf t) a c v = absurd v
opposite_value (fin t m e) a c v = (ap not v.0, v.1)

sub_is : (f : Format) (x y : Float) → sub f x y ≡ add f x (neg y)
unfolding sub
sub_is f x y = refl

pub sub_fractions : (f : Format) (x y : Float) (a b c : ℕ) → 0 < c → b ≤ a → HasValue x false a c → HasValue y false b c → sub f x y ≡ round f false (a - b) c
sub_fractions f x y a b c C l h k = sub_is f x y ∙ add_opposite f x (neg y) a b c C l h (opposite_value y b c k)

-- x is a / c and y is b / d
pub mul_fractions : (f : Format) (x y : Float) (a b c d : ℕ) → 0 < c → 0 < d → HasValue x false a c → HasValue y false b d → mul f x y ≡ round f false (a * b) (c * d)
unfolding mul
mul_fractions f nan y a b c d C D h k = absurd h
mul_fractions f (inf s) y a b c d C D h k = absurd h
mul_fractions f (fin s m e) nan a b c d C D h k = absurd k
mul_fractions f (fin s m e) (inf t) a b c d C D h k = absurd k
mul_fractions f (fin true m e) (fin t n g) a b c d C D h k = absurd (true≢false h.0)
mul_fractions f (fin false m e) (fin true n g) a b c d C D h k = absurd (true≢false k.0)
mul_fractions f (fin false m e) (fin false n g) a b c d C D h k =
    round_same f false (m * up e * (n * up g)) (down e * down g) (a * b) (c * d) (mul-pos (down_pos e) (down_pos g)) (mul-pos C D)
    (omega (arith, ap (λ (z : ℕ). z * (n * up g * d)) h.1, ap (λ (z : ℕ). z * (a * down e)) k.1))

-- A quotient of either sign by what is above zero.

unlike_plus : (s : Bool) → unlike s false ≡ s
unlike_plus true = refl
unlike_plus false = refl

opened : (f : Format) (s : Bool) (m n : ℕ) (e d : ℤ) → 0 < n → div f (fin s m e) (fin false n d) ≡ round f (unlike s false) (m * up e * down d) (n * up d * down e)
unfolding div
opened f s m n e d h =
    ap (λ (b : Bool). cond b (cond (eqb m 0) nan (inf (unlike s false))) (round f (unlike s false) (m * up e * down d) (n * up d * down e))) (ne_eqb n 0 (omega arith))

module _ (c : ℕ) (C : 0 < c) where
  not_zero : (n u b d : ℕ) → n * u * c ≡ b * d → 0 < b → 0 < d → 0 < n
  not_zero zero u b d e h k = absurd (lt_irrefl 0 (subst (λ (z : ℕ). 0 < z) (sym e ∙ ap (λ (z : ℕ). z * c) (zero-mul u) ∙ zero-mul c) (mul-pos h k)))
  not_zero (suc n) u b d e h k = zero-lt-suc n

  ratio : (x y dx dy a b : ℕ) → x * c ≡ a * dx → y * c ≡ b * dy → x * dy * b ≡ a * (y * dx)
  ratio x y dx dy a b p q = eq_of_mul-eq-mul_right c C (x * dy * b) (a * (y * dx)) (omega (arith, ap (λ (z : ℕ). z * (dy * b)) p, ap (λ (z : ℕ). z * (a * dx)) q))

  -- x is a / c in size, with the sign s, and y is b / c
  pub div_fractions : (f : Format) (x y : Float) (s : Bool) (a b : ℕ) → 0 < b → HasValue x s a c → HasValue y false b c → div f x y ≡ round f s a b
  div_fractions f nan y s a b p h k = absurd h
  div_fractions f (inf t) y s a b p h k = absurd h
  div_fractions f (fin t m e) nan s a b p h k = absurd k
  div_fractions f (fin t m e) (inf u) s a b p h k = absurd k
  div_fractions f (fin t m e) (fin true n d) s a b p h k = absurd (true≢false k.0)
  div_fractions f (fin t m e) (fin false n d) s a b p h k =
      let N : 0 < n = not_zero n (up d) b (down d) k.1 p (down_pos d) in
      opened f t m n e d N
      ∙ ap (λ (z : Bool). round f z (m * up e * down d) (n * up d * down e)) (unlike_plus t ∙ h.0)
      ∙ round_same f s (m * up e * down d) (n * up d * down e) a b (mul-pos (mul-pos N (up_pos d)) (down_pos e)) p (ratio (m * up e) (n * up d) (down e) (down d) a b h.1 k.1)
