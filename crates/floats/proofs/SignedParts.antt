-- A small part of either sign: its quotient by a float above zero, and a sum with a float that is no smaller. Both depend on the part's units alone, not on the sign of a zero.
use Rattle.std.proofs.Common.{◌≡◌, ℕ, zero, suc, ◌+◌, ◌-◌, ◌*◌, ◌^◌, ◌<◌, ◌≤◌, Bool, true, false, ℤ, pos, negsuc, ◌+ℤ◌, neg_ℤ, nat_abs, sym, refl, ap, ◌∙◌, subst, lt_of_le_of_lt, mul-lt-mul_of_pos_right, le_of_mul-le-mul_right, arith, lit<}
use lib.Ieee.{Float, binary64, round, add, div}
use lib.Ieee.Exact.{HasValue}
use lib.Ieee.Scale.{grid}
use Rattle.std.proofs.lemmas.Int.{ints}
use Rattle.floats.specs.Units.{unit, signed}
use Rattle.floats.specs.Holds.{Holds}
use Rattle.floats.proofs.Values.{unit_positive, Is}
use Rattle.floats.proofs.RelativeError.{round_value, grid_twice}
use Rattle.floats.proofs.Fractions.{add_fractions, add_opposite, div_fractions}

-- z / h in units, rounded
abbrev pub quotient : ℤ → ℕ → ℤ
quotient (pos n) h = pos (grid binary64 n h)
quotient (negsuc n) h = neg_ℤ (pos (grid binary64 (suc n) h))

no_quotient : (h : ℕ) → 0 < h → grid binary64 0 h ≡ 0
no_quotient h H = let a : grid binary64 0 h ≤ 0 = le_of_mul-le-mul_right {k = h} (omega (arith, grid_twice binary64 0 h H)) H in omega arith

signed_quotient : (s : Bool) (n h : ℕ) → 0 < h → quotient (signed s n) h ≡ signed s (grid binary64 n h)
signed_quotient false n h H = refl
signed_quotient true zero h H = let e = no_quotient h H in ap pos e ∙ ap (λ (k : ℕ). neg_ℤ (pos k)) (sym e)
signed_quotient true (suc n) h H = refl

rounded_value : (s : Bool) (n h : ℕ) → 0 < h → n ≤ 2 ^ 66 * h → HasValue (round binary64 s n h) s (grid binary64 n h) unit
unfolding unit
rounded_value s n h H l = round_value binary64 n h H s (lt_of_le_of_lt l (mul-lt-mul_of_pos_right (lit< tt) H))

-- x is z units, and y is h
pub quotient_is : (x y : Float) (z : ℤ) (h : ℕ) → Is x z → Holds y h → 0 < h → nat_abs z ≤ 2 ^ 66 * h → Is (div binary64 x y) (quotient z h)
quotient_is x y z h p q H l =
    let s = p.negative in
    let n = p.count in
    let small : n ≤ 2 ^ 66 * h = subst (λ (k : ℕ). k ≤ 2 ^ 66 * h) (ap nat_abs p.is ∙ size s n) l in
    record {
      negative = s;
      count = grid binary64 n h;
      value = subst (λ (k : Float). HasValue k s (grid binary64 n h) unit) (sym (div_fractions unit unit_positive binary64 x y s n h H p.value q)) (rounded_value s n h H small);
      is = ap (λ (k : ℤ). quotient k h) p.is ∙ signed_quotient s n h H;
    }
  where
    size : (s : Bool) (n : ℕ) → nat_abs (signed s n) ≡ n
    size true n = omega (arith, ints)
    size false n = refl

-- x is g units, and y is z, no larger in size
pub sum_with : (x y : Float) (g : ℕ) (z : ℤ) → Holds x g → Is y z → nat_abs z ≤ g → add binary64 x y ≡ round binary64 false (nat_abs (pos g +ℤ z)) unit
sum_with x y g z h p l = go p.negative p.count p.value p.is
  where
    go : (s : Bool) (n : ℕ) → HasValue y s n unit → z ≡ signed s n → add binary64 x y ≡ round binary64 false (nat_abs (pos g +ℤ z)) unit
    go false n v e = add_fractions binary64 x y g n unit unit_positive h v ∙ ap (λ (k : ℕ). round binary64 false k unit) (let d : g + n ≡ nat_abs (pos g +ℤ z) = omega (arith, ints) in d)
    go true n v e = add_opposite binary64 x y g n unit unit_positive (omega (arith, ints)) h v ∙ ap (λ (k : ℕ). round binary64 false k unit) (let d : g - n ≡ nat_abs (pos g +ℤ z) = omega (arith, ints) in d)

-- a rounded quotient is at most twice the exact one
pub quotient_most : (n h : ℕ) → 0 < h → grid binary64 n h * h ≤ n * unit * 2
unfolding unit
quotient_most n h H = grid_twice binary64 n h H
