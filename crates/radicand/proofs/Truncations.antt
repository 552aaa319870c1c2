-- Whole parts of fractions: what a cut keeps under a sum, a second cut, and another form of the fraction.
use Rattle.std.proofs.Common.{◌≡◌, ℕ, zero, suc, ◌+◌, ◌-◌, ◌*◌, ◌/◌, ◌%◌, ◌<◌, ◌≤◌, Bool, false, ◌||◌, sym, refl, ap, ◌∙◌, inl, inr, mul-le-mul_right, lt_of_not-le, le_of_mul-le-mul_right, mul-div_cancel, arith}
use native.Mathlib.Nat.{eq_of_mul-eq-mul_right}
use borrow.Author.Tests.{clash}
use Rattle.std.proofs.lemmas.Nat.{div-mul-add, mod-mul-add}
use Rattle.std.proofs.lemmas.Bool.{or_cases, or_parts}
use Rattle.radicand.specs.declared.words.Radicand.{Radicand}
use Rattle.radicand.specs.Stands.{Stands, radicand_floor}
use Rattle.radicand.specs.Truncation.{Truncates}

-- a whole number added to the fraction
pub with_whole : (a n : ℕ) (cut : Bool) (v m : ℕ) → Truncates n cut v m → Truncates (a + n) cut (a * m + v) m
with_whole a n cut v m t = record {
  rest = t.rest;
  whole = omega (arith, t.whole);
  short = t.short;
  is_cut = t.is_cut;
  not_cut = t.not_cut;
}

-- a product is zero only where a factor is
positive_product : (a b : ℕ) → 0 < b → a * b ≡ 0 → a ≡ 0
positive_product a b h e = eq_of_mul-eq-mul_right b h a 0 (omega arith)

-- a second cut, by q: the rest is what either cut left, so it is zero where both left nothing
pub cut_twice : (n k : ℕ) (c d : Bool) (v m q : ℕ) → Truncates n c v m → Truncates k d n q → Truncates k (c || d) v (m * q)
cut_twice n k c d v m q t s = record {
  rest = s.rest * m + t.rest;
  whole = omega (arith, t.whole, ap (λ (x : ℕ). x * m) s.whole);
  short = omega (arith, t.short, mul-le-mul_right m s.short);
  is_cut = λ h z. elim (or_cases c d h) [
    | inl x ↦ t.is_cut x (omega arith)
    | inr x ↦ s.is_cut x (positive_product s.rest m (omega (arith, t.short)) (omega arith))
  ];
  not_cut = λ h. let e = or_parts c d h in omega (arith, t.not_cut e.0, ap (λ (x : ℕ). x * m) (s.not_cut e.1));
}

-- the same fraction over another denominator
pub same_fraction : (n : ℕ) (cut : Bool) (v m w k : ℕ) → 0 < k → v * k ≡ w * m → Truncates n cut v m → Truncates n cut w k
same_fraction n cut v m w k K e t =
    let p : v * k ≡ (n * m + t.rest) * k = ap (λ (x : ℕ). x * k) t.whole in
    let M : 0 < m = omega (arith, t.short) in
    let a : n * k ≤ w = le_of_mul-le-mul_right {k = m} (omega arith) M in
    let d : w ≡ n * k + (w - n * k) = omega arith in
    let r : (w - n * k) * m ≡ t.rest * k = omega (arith, ap (λ (x : ℕ). x * m) d) in
    record {
      rest = w - n * k;
      whole = d;
      short = lt_of_not-le (λ (g : k ≤ w - n * k). omega (arith, r, mul-le-mul_right m g, mul-le-mul_right k t.short, K));
      is_cut = λ h z. t.is_cut h (positive_product t.rest k K (omega (arith, r, ap (λ (x : ℕ). x * m) z)));
      not_cut = λ h. positive_product (w - n * k) m M (omega (arith, r, ap (λ (x : ℕ). x * k) (t.not_cut h)));
    }

-- a multiple of the denominator is its own whole part
pub exact : (n : ℕ) (cut : Bool) (j m : ℕ) → Truncates n cut (j * m) m → n ≡ j
exact n cut j m t =
    let M : 0 < m = omega (arith, t.short) in
    sym (div-mul-add n m t.rest t.short) ∙ ap (λ (x : ℕ). x / m) (sym t.whole) ∙ mul-div_cancel j M

-- a whole number as a fraction
pub nothing_cut : (n m : ℕ) → 0 < m → Truncates n false (n * m) m
nothing_cut n m h = record { rest = 0; whole = omega arith; short = h; is_cut = λ e z. clash e; not_cut = λ e. refl }

-- a fraction below one over a larger denominator
pub below_one : (n : ℕ) (cut : Bool) (v m q : ℕ) → v < m → m ≤ q → Truncates n cut v m → Truncates n cut v q
below_one zero cut v m q h k t = let e : t.rest ≡ v = omega (arith, t.whole) in record {
  rest = v;
  whole = omega arith;
  short = omega arith;
  is_cut = λ c z. t.is_cut c (e ∙ z);
  not_cut = λ c. sym e ∙ t.not_cut c;
}
below_one (suc n) cut v m q h k t = absurd (omega (arith, t.whole))

-- words that hold the whole part stand for the fraction
pub stands : (r : Radicand) (n v m : ℕ) (cut : Bool) → n ≡ 4 * radicand_floor r + r.bits → r.bits < 4 → r.cut ≡ cut → Truncates n cut v m → Stands r v m
stands r n v m cut e b s t =
    let quotient : v / m ≡ n = ap (λ (x : ℕ). x / m) t.whole ∙ div-mul-add n m t.rest t.short in
    let remainder : v % m ≡ t.rest = ap (λ (x : ℕ). x % m) t.whole ∙ mod-mul-add n m t.rest t.short in
    record {
      positive = omega (arith, t.short);
      bits_short = b;
      floor = quotient ∙ e;
      is_cut = λ c z. t.is_cut (sym s ∙ c) (sym remainder ∙ z);
      not_cut = λ c. remainder ∙ t.not_cut (sym s ∙ c);
    }
