-- The bit patterns of normal floats with a plus sign: k * 2 ^ 52 + q, with a q of 53 bits, is q * 2 ^ k units.
use Rattle.std.proofs.Common.{◌≡◌, ℕ, suc, ◌+◌, ◌-◌, ◌*◌, ◌/◌, ◌%◌, ◌^◌, ◌<◌, ◌≤◌, Bool, true, false, cond, not, T, eqb, leb, sym, ap, ◌∙◌, subst, true≢false, le_trans, le_of_eq, lt_of_lt_of_le, lt_of_le_of_lt, lt_of_not-le, le-div_iff_mul-le, zero-add, not-le_of_lt, le_of_mul-le-mul_right, mul-div_cancel, arith, lit<, lit≤, pow_pos, pow_mono, pow-add, shr_lt, le-ltb, ne_eqb}
use borrow.Author.Tests.{lt-leb}
use lib.Ieee.{Float, nan, inf, fin, binary64, up, down, size, fits, odd, of_fields, of_bits, to_bits, nan_bits, is_nan}
use lib.Ieee.Exact.{HasValue, odd_sign}
use lib.Ieee.Bits.{nan_bits_above, of_bits-to_bits}
use lib.Ieee.Digits.{size-lt, size-le, size_reaches}
use lib.Ieee.Fits.{down_pos}
use Rattle.floats.specs.Units.{unit}
use Rattle.floats.specs.Holds.{Holds}
use Rattle.head.specs.Head.{Ordinary}

-- From a pattern to its float.

pub no_nan : (k q : ℕ) → k ≤ 2045 → q < 2 ^ 53 → T (not (nan_bits binary64 (k * 2 ^ 52 + q)))
no_nan k q a b =
    let e : nan_bits binary64 (k * 2 ^ 52 + q) ≡ false = nan_bits_above binary64 (k * 2 ^ 52 + q) ∙ le-ltb (2047 * 2 ^ 52) ((k * 2 ^ 52 + q) % 2 ^ 63) (omega arith) in
    subst (λ (z : Bool). T (not z)) (sym e) tt

pub normal_pattern : (k q : ℕ) → k ≤ 2045 → 2 ^ 52 ≤ q → q < 2 ^ 53 → Holds (of_bits binary64 (k * 2 ^ 52 + q)) (q * 2 ^ k)
unfolding of_bits of_fields unit
normal_pattern k q a b c =
    let s : leb (2 ^ 63) (k * 2 ^ 52 + q) ≡ false = lt-leb (2 ^ 63) (k * 2 ^ 52 + q) (omega arith) in
    let x : (k * 2 ^ 52 + q) % 2 ^ 63 / 2 ^ 52 ≡ suc k = omega arith in
    let t : (k * 2 ^ 52 + q) % 2 ^ 52 ≡ q - 2 ^ 52 = omega arith in
    let y : 2 ^ 52 + (q - 2 ^ 52) ≡ q = omega arith in
    let z : eqb (suc k) 2047 ≡ false = ne_eqb (suc k) 2047 (omega arith) in
    let read : of_bits binary64 (k * 2 ^ 52 + q) ≡ odd 53 false q k 1074 =
    ap (λ (z : Bool). of_fields binary64 z ((k * 2 ^ 52 + q) % 2 ^ 63 / 2 ^ 52) ((k * 2 ^ 52 + q) % 2 ^ 52)) s
    ∙ ap (λ (z : ℕ). of_fields binary64 false z ((k * 2 ^ 52 + q) % 2 ^ 52)) x
    ∙ ap (λ (z : ℕ). of_fields binary64 false (suc k) z) t
    ∙ ap (λ (b : Bool). cond b (cond (eqb (q - 2 ^ 52) 0) (inf false) nan) (odd 53 false (2 ^ 52 + (q - 2 ^ 52)) k 1074)) z
    ∙ ap (λ (v : ℕ). odd 53 false v k 1074) y in
    subst (λ (v : Float). HasValue v false (q * 2 ^ k) (2 ^ 1074)) (sym read) (odd_sign 53 false q k 1074)

-- From a float of g units to its pattern.

written : (x : Float) (g : ℕ) → Holds x g → to_bits binary64 x ≡ (size g - 53) * 2 ^ 52 + g / 2 ^ (size g - 53)
unfolding to_bits unit
written nan g v = absurd v
written (inf t) g v = absurd v
written (fin true m e) g v = absurd (true≢false v.0)
written (fin false m e) g v =
    let n : m * up e * 2 ^ 1074 / down e ≡ g = ap (λ (k : ℕ). k / down e) v.1 ∙ mul-div_cancel g (down_pos e) in
    ap (λ (k : ℕ). 0 + (size k - 53) * 2 ^ 52 + k / 2 ^ (size k - 53)) n
    ∙ ap (λ (k : ℕ). k + g / 2 ^ (size g - 53)) (zero-add ((size g - 53) * 2 ^ 52))

-- so two floats of as many units are one
pub same_float : (x y : Float) (g : ℕ) → T (fits binary64 x) → T (fits binary64 y) → Holds x g → Holds y g → x ≡ y
same_float x y g p q v w = sym (of_bits-to_bits binary64 x p) ∙ ap (of_bits binary64) (written x g v ∙ sym (written y g w)) ∙ of_bits-to_bits binary64 y q

-- The parts of an ordinary float's pattern.

pub record Parts (h : Float) (bits : ℕ) : Type 0 where
  pub k : ℕ
  pub q : ℕ
  pub pattern : bits ≡ k * 2 ^ 52 + q
  pub low_place : 939 ≤ k
  pub high_place : k ≤ 1029
  pub low_digits : 2 ^ 52 ≤ q
  pub high_digits : q < 2 ^ 53
  pub value : Holds h (q * 2 ^ k)

size_gt : (n j : ℕ) → 2 ^ j ≤ n → j < size n
size_gt n j h = lt_of_not-le (λ (g : size n ≤ j). not-le_of_lt (lt_of_lt_of_le (size-lt n) (pow_mono g)) h)

size_low : (g : ℕ) → unit ≤ g * 2 ^ 83 → 991 < size g
unfolding unit
size_low g h = size_gt g 991 (le_of_mul-le-mul_right {k = 2 ^ 83} (le_trans (lit≤ tt) h) (lit< tt))

size_high : (g : ℕ) → g ≤ 128 * unit → size g ≤ 1082
unfolding unit
size_high g h = size-le g 1082 (lt_of_le_of_lt h (lit< tt))

digits_high : (g z k : ℕ) → g < 2 ^ z → z ≡ 53 + k → g / 2 ^ k < 2 ^ 53
digits_high g z k h e = shr_lt 53 k (subst (λ (y : ℕ). g < 2 ^ y) e h)

digits_low : (g z k : ℕ) → ((j : ℕ) → j < z → 2 ^ j ≤ g) → z ≡ 53 + k → 2 ^ 52 ≤ g / 2 ^ k
digits_low g z k h e = (le-div_iff_mul-le (pow_pos k)).1 (le_trans (le_of_eq (sym (pow-add 2 52 k))) (h (52 + k) (omega arith)))

pub parts : (h : Float) → T (fits binary64 h) → Ordinary h → Parts h (to_bits binary64 h)
parts h f o =
    let g = o.count in
    let place = size g - 53 in
    let digits = g / 2 ^ place in
    let a = size_low g o.least in
    let b = size_high g o.most in
    let e : size g ≡ 53 + place = omega arith in
    let ql = digits_low g (size g) place (size_reaches g) e in
    let qh = digits_high g (size g) place (size-lt g) e in
    let w = written h g o.holds in
    record {
      k = place;
      q = digits;
      pattern = w;
      low_place = omega arith;
      high_place = omega arith;
      low_digits = ql;
      high_digits = qh;
      value = subst (λ (y : Float). Holds y (digits * 2 ^ place)) (ap (of_bits binary64) (sym w) ∙ of_bits-to_bits binary64 h f) (normal_pattern place digits (omega arith) ql qh);
    }

finite_number : (h : Float) (g : ℕ) → Holds h g → T (not (is_nan h))
unfolding is_nan
finite_number nan g v = absurd v
finite_number (inf s) g v = absurd v
finite_number (fin s m e) g v = tt

pub is_number : (h : Float) → Ordinary h → T (not (is_nan h))
is_number h o = finite_number h o.count o.holds
