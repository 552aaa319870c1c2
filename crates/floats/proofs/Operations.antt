-- Sums, differences, products and quotients of floats above zero, in units: each is within 2 ^ -53 of the exact one, as long as it is neither tiny nor huge.
use Rattle.std.proofs.Common.{◌≡◌, ℕ, ◌+◌, ◌-◌, ◌*◌, ◌^◌, ◌<◌, ◌≤◌, false, sym, ap, ◌∙◌, subst, lt_of_le_of_lt, mul-le-mul_right, mul-lt-mul_of_pos_right, mul-pos, one-mul, arith, lit<, lit≤}
use lib.Ieee.{Float, binary64, round, add, sub, mul, div}
use lib.Ieee.Scale.{grid}
use Rattle.floats.specs.Units.{unit}
use Rattle.floats.specs.Near.{Near}
use Rattle.floats.specs.Holds.{Holds}
use Rattle.floats.proofs.Values.{unit_positive}
use Rattle.floats.proofs.Nearness.{near_unscale}
use Rattle.floats.proofs.RelativeError.{round_value, round_near}
use Rattle.floats.proofs.Fractions.{add_fractions, sub_fractions, mul_fractions, div_fractions}

pub unit_large : 2 ^ 200 ≤ unit
unfolding unit
unit_large = lit≤ tt

-- x is n / c in units, rounded
pub record Rounded (x : Float) (c n : ℕ) : Type 0 where
  pub count : ℕ
  pub holds : Holds x count
  pub near : Near 1 (2 ^ 53) (count * c) n

-- a / c, for a fraction from 2 ^ -1022 to 2 ^ 66
pub rounded_fraction : (a c : ℕ) → 0 < c → 2 ^ 52 * c ≤ a * unit → a ≤ 2 ^ 66 * c → Rounded (round binary64 false a c) c (a * unit)
unfolding unit
rounded_fraction a c C lo hi = record {
  count = grid binary64 a c;
  holds = round_value binary64 a c C false (lt_of_le_of_lt hi (mul-lt-mul_of_pos_right (lit< tt) C));
  near = round_near binary64 a c C lo;
}

-- a / c units
pub rounded_units : (x : Float) (a c : ℕ) → 0 < c → x ≡ round binary64 false a (c * unit) → 2 ^ 52 * c ≤ a → a ≤ 2 ^ 66 * (c * unit) → Rounded x c a
rounded_units x a c C e lo hi =
    let r = rounded_fraction a (c * unit) (mul-pos C unit_positive) (omega (arith, mul-le-mul_right unit lo)) hi in
    let n = r.near in
    record {
      count = r.count;
      holds = subst (λ (z : Float). Holds z r.count) (sym e) r.holds;
      near = near_unscale 1 (2 ^ 53) (r.count * c) a unit unit_positive (record { above = omega (arith, n.above); below = omega (arith, n.below) });
    }

-- a units
pub rounded_whole : (x : Float) (a : ℕ) → x ≡ round binary64 false a unit → 2 ^ 52 ≤ a → a ≤ 2 ^ 66 * unit → Rounded x 1 a
rounded_whole x a e lo hi = rounded_units x a 1 (lit< tt) (e ∙ ap (round binary64 false a) (sym (one-mul unit))) (omega arith) (omega arith)

module _ (x y : Float) (g h : ℕ) (p : Holds x g) (q : Holds y h) where
  pub rounded_sum : 2 ^ 52 ≤ g + h → g + h ≤ 2 ^ 66 * unit → Rounded (add binary64 x y) 1 (g + h)
  rounded_sum lo hi = rounded_whole (add binary64 x y) (g + h) (add_fractions binary64 x y g h unit unit_positive p q) lo hi

  pub rounded_difference : h ≤ g → 2 ^ 52 ≤ g - h → g - h ≤ 2 ^ 66 * unit → Rounded (sub binary64 x y) 1 (g - h)
  rounded_difference l lo hi = rounded_whole (sub binary64 x y) (g - h) (sub_fractions binary64 x y g h unit unit_positive l p q) lo hi

  pub rounded_product : 2 ^ 52 * unit ≤ g * h → g * h ≤ 2 ^ 66 * (unit * unit) → Rounded (mul binary64 x y) unit (g * h)
  rounded_product lo hi = rounded_units (mul binary64 x y) (g * h) unit unit_positive (mul_fractions binary64 x y g h unit unit unit_positive unit_positive p q) lo hi

  pub rounded_quotient : 0 < h → 2 ^ 52 * h ≤ g * unit → g ≤ 2 ^ 66 * h → Rounded (div binary64 x y) h (g * unit)
  rounded_quotient H lo hi = subst (λ (z : Float). Rounded z h (g * unit)) (sym (div_fractions unit unit_positive binary64 x y false g h H p q)) (rounded_fraction g h H lo hi)
