-- The float radicands of sides from 2 ^ -28 to 2, in units: how near they are to the exact ones, and between which bounds they lie.
use Rattle.std.proofs.Common.{◌≡◌, ℕ, ◌+◌, ◌-◌, ◌*◌, ◌^◌, ◌<◌, ◌≤◌, false, T, sym, subst, mul-le-mul_right, mul-le-mul, mul-pos, le_of_mul-le-mul_right, arith, lit<, lit≤}
use lib.Ieee.{Float, binary64, round, le, add, sub, mul}
use lib.Ieee.Back.{round_whole}
use lib.Ieee.Order.{round_mono}
use lib.Ieee.Positive.{positive_of_value, values_of_le}
use Rattle.floats.specs.Units.{unit}
use Rattle.floats.specs.Near.{Near}
use Rattle.floats.specs.Holds.{Holds}
use Rattle.floats.proofs.Values.{unit_positive}
use Rattle.floats.proofs.Nearness.{near_one, near_alike}
use Rattle.floats.proofs.Fractions.{add_fractions, mul_fractions}
use Rattle.floats.proofs.Operations.{unit_large, Rounded, rounded_sum, rounded_difference, rounded_product}
use Rattle.head.specs.Squares.{two_squares, three_squares, squares_difference}
use Rattle.head.proofs.Budget.{two_error, three_error, leg_error}

-- a fraction from 1 on, rounded, is at least 1, since 1 is a float
no_less : (x : Float) (a c g : ℕ) → 0 < c → x ≡ round binary64 false a c → c ≤ a → 0 < g → Holds x g → unit ≤ g
no_less x a c g C e l p h =
    let one = round binary64 false 1 1 in
    let v = round_whole binary64 false 1 (lit≤ tt) in
    let m : T (le one x) = subst (λ (z : Float). T (le one z)) (sym e) (round_mono binary64 1 1 a c (lit< tt) C (omega arith)) in
    let o = values_of_le one x 1 1 g unit (positive_of_value one 1 1 v (lit< tt)) (positive_of_value x g unit h p) v h m in
    omega arith

unit_square : 2 ^ 200 * unit ≤ unit * unit
unit_square = mul-le-mul_right unit unit_large

-- The square of a side.

pub record Squared (x : Float) (G : ℕ) : Type 0 where
  pub count : ℕ
  pub holds : Holds (mul binary64 x x) count
  pub near : Near 1 (2 ^ 53) (count * unit) (G * G)
  pub some : unit ≤ count * 2 ^ 57
  pub most : count * 4 ≤ 17 * unit
  pub one : unit ≤ G → unit ≤ count

-- x is G units
module _ (x : Float) (G : ℕ) (h : Holds x G) (lo : unit ≤ G * 2 ^ 28) (hi : G ≤ 2 * unit) where
  low : unit * unit ≤ G * 2 ^ 28 * (G * 2 ^ 28)
  low = mul-le-mul lo lo

  high : G * G ≤ 2 * unit * (2 * unit)
  high = mul-le-mul hi hi

  rounded_square : Rounded (mul binary64 x x) unit (G * G)
  rounded_square = rounded_product x x G G h h (omega (arith, low, unit_square)) (omega (arith, high))

  pub square : Squared x G
  square =
      let r = rounded_square in
      let n = r.near in
      let z = near_alike 1 (2 ^ 53) (r.count * unit) (G * G) (lit< tt) (lit≤ tt) n in
      let least : unit ≤ r.count * 2 ^ 57 = le_of_mul-le-mul_right {k = unit} (omega (arith, low, z.least)) unit_positive in
      record {
        count = r.count;
        holds = r.holds;
        near = n;
        some = least;
        most = le_of_mul-le-mul_right {k = unit} (omega (arith, high, n.above)) unit_positive;
        one = λ l. no_less (mul binary64 x x) (G * G) (unit * unit) r.count (mul-pos unit_positive unit_positive) (mul_fractions binary64 x x G G unit unit unit_positive unit_positive h h) (mul-le-mul l l) (omega (arith, least, unit_positive)) r.holds;
      }

-- A sum of squares, the first of a side from 1 on.

-- h is within error / 2 ^ 54 of exact / unit ^ 2, and lies from 1 to below 16
pub record Sum (h : Float) (error exact : ℕ) : Type 0 where
  pub count : ℕ
  pub holds : Holds h count
  pub near : Near error (2 ^ 54) (count * unit) exact
  pub least : unit ≤ count
  pub most : count < 16 * unit

-- the rounded sum of two floats, where the first is from 1 on
record Added (x y : Float) (P Q : ℕ) : Type 0 where
  count : ℕ
  holds : Holds (add binary64 x y) count
  near : Near 1 (2 ^ 53) count (P + Q)
  least : unit ≤ count

added : (x y : Float) (P Q : ℕ) → Holds x P → Holds y Q → unit ≤ P → P + Q ≤ 16 * unit → Added x y P Q
added x y P Q h k lo hi =
    let r = rounded_sum x y P Q h k (omega (arith, unit_large)) (omega arith) in
    let n = near_one 1 (2 ^ 53) r.count (P + Q) r.near in
    let z = near_alike 1 (2 ^ 53) r.count (P + Q) (lit< tt) (lit≤ tt) n in
    record {
      count = r.count;
      holds = r.holds;
      near = n;
      least = no_less (add binary64 x y) (P + Q) unit r.count unit_positive (add_fractions binary64 x y P Q unit unit_positive h k) (omega arith) (omega (arith, z.least, unit_positive)) r.holds;
    }

-- x is G units, and y is H
module _ (x y : Float) (G H : ℕ) (p : Squared x G) (q : Squared y H) (o : unit ≤ G) where
  first : Added (mul binary64 x x) (mul binary64 y y) p.count q.count
  first = added (mul binary64 x x) (mul binary64 y y) p.count q.count p.holds q.holds (p.one o) (omega (arith, p.most, q.most))

  first_most : first.count ≤ 9 * unit
  first_most = let n = first.near in omega (arith, p.most, q.most, n.above)

  pub two_sum : Sum (two_squares x y) 5 (G * G + H * H)
  two_sum = record {
    count = first.count;
    holds = first.holds;
    near = two_error unit (G * G) (H * H) p.count q.count first.count p.near q.near first.near;
    least = first.least;
    most = omega (arith, first_most, unit_positive);
  }

  -- and z is K
  pub three_sum : (z : Float) (K : ℕ) → Squared z K → Sum (three_squares x y z) 7 (G * G + H * H + K * K)
  three_sum z K r =
      let s = added (two_squares x y) (mul binary64 z z) first.count r.count first.holds r.holds first.least (omega (arith, first_most, r.most)) in
      let n = s.near in
      record {
        count = s.count;
        holds = s.holds;
        near = three_error unit (G * G) (H * H) p.count q.count first.count p.near q.near first.near (K * K) r.count s.count r.near n;
        least = s.least;
        most = omega (arith, first_most, r.most, n.above, unit_positive);
      }

-- The difference of two squares.

-- h is within 7 / 2 ^ 54 of exact / unit ^ 2, and lies from 2 ^ -83 to 64
pub record Difference (h : Float) (exact : ℕ) : Type 0 where
  pub count : ℕ
  pub holds : Holds h count
  pub near : Near 7 (2 ^ 54) (count * unit) exact
  pub least : unit ≤ count * 2 ^ 83
  pub most : count ≤ 64 * unit

-- x is G units, from 1 on, and y is H, which is less
module _ (x y : Float) (G H : ℕ) (h : Holds x G) (k : Holds y H) (lo : unit ≤ G) (hi : G ≤ 2 * unit) (o : H ≤ G) (far : unit ≤ (G - H) * 2 ^ 80) where
  less : Rounded (sub binary64 x y) 1 (G - H)
  less = rounded_difference x y G H h k o (omega (arith, unit_large)) (omega arith)

  more : Rounded (add binary64 x y) 1 (G + H)
  more = rounded_sum x y G H h k (omega (arith, unit_large)) (omega arith)

  pub leg_difference : Difference (squares_difference x y) ((G - H) * (G + H))
  leg_difference =
      let d = near_one 1 (2 ^ 53) less.count (G - H) less.near in
      let s = near_one 1 (2 ^ 53) more.count (G + H) more.near in
      product less.count more.count d s less.holds more.holds
    where
      product : (D S : ℕ) → Near 1 (2 ^ 53) D (G - H) → Near 1 (2 ^ 53) S (G + H) → Holds (sub binary64 x y) D → Holds (add binary64 x y) S → Difference (squares_difference x y) ((G - H) * (G + H))
      product D S d s dv sv =
          let a = near_alike 1 (2 ^ 53) D (G - H) (lit< tt) (lit≤ tt) d in
          let b = near_alike 1 (2 ^ 53) S (G + H) (lit< tt) (lit≤ tt) s in
          let dl : unit ≤ D * 2 ^ 81 = omega (arith, a.least) in
          let dh : D ≤ 4 * unit = omega (arith, a.most) in
          let sl : unit ≤ S * 2 = omega (arith, b.least) in
          let sh : S ≤ 8 * unit = omega (arith, b.most) in
          let low : unit * unit ≤ D * 2 ^ 81 * (S * 2) = mul-le-mul dl sl in
          let high : D * S ≤ 4 * unit * (8 * unit) = mul-le-mul dh sh in
          let r = rounded_product (sub binary64 x y) (add binary64 x y) D S dv sv (omega (arith, low, unit_square)) (omega (arith, high)) in
          let e = near_alike 1 (2 ^ 53) (r.count * unit) (D * S) (lit< tt) (lit≤ tt) r.near in
          record {
            count = r.count;
            holds = r.holds;
            near = leg_error unit (G - H) (G + H) D S r.count d s r.near;
            least = le_of_mul-le-mul_right {k = unit} (omega (arith, low, e.least)) unit_positive;
            most = le_of_mul-le-mul_right {k = unit} (omega (arith, high, e.most)) unit_positive;
          }
