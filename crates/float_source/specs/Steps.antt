-- The steps in floats: each takes the mean of the guess and a quotient, so the guess's square comes as near to the word as a Newton step brings it.
use Rattle.std.specs.Prelude.{◌≡◌, ℕ, ◌+◌, ◌*◌, ◌^◌, ◌<◌, ◌≤◌, false, from_bits, Float}
use Rattle.std.proofs.Common.{ap, mul-one, mul-le-mul_right, arith, lit<, lit≤}
use Rattle.std.specs.Float.Ieee.{binary64, round, add, div, of_int}
use Rattle.std.specs.Float.Ieee.Back.{round_whole}
use Rattle.floats.specs.Units.{unit}
use Rattle.floats.specs.Near.{Near}
use Rattle.floats.specs.Holds.{Holds}
use Rattle.floats.proofs.Values.{Is, unit_positive}
use Rattle.floats.proofs.Nearness.{near_scale, near_unscale, near_one, near_alike}
use Rattle.floats.proofs.Fractions.{rescale}
use Rattle.floats.proofs.Operations.{unit_large, rounded_sum, rounded_product}
use Rattle.sources.specs.Source.{Word}
use Rattle.float_source.specs.FloatProposal.{held_high, held_low, first_guess, mean, stepped, improved}
use Rattle.float_source.specs.FirstGuess.{guessed, guessed_square}
use Rattle.float_source.specs.Gains.{Step, Gain, first_gain, second_gain, third_gain, last_gain, step_rounded, Ranged, ranged, double_square}
use Rattle.float_source.specs.Constants.{half}
use Rattle.float_source.specs.WordParts.{Parts}
use Rattle.float_source.specs.Quotients.{Between, between, Divided, divided_high, divided_both, same_sum}

-- y is a step from X at the root of T
record Stepped (y : Float) (X T : ℕ) : Type 0 where
  count : ℕ
  holds : Holds y count
  near : Step X count T

-- the mean of x and the quotient q
module _ (x q : Float) (X P T : ℕ) (x_holds : Holds x X) (q_holds : Holds q P) (x_range : Ranged unit X) (q_range : Between unit P) (near : Near 7 (2 ^ 54) (P * X) T) where
  mean_steps : Stepped (mean x q) X T
  mean_steps =
      let s = rounded_sum x q X P x_holds q_holds (omega (arith, x_range.least, unit_large)) (omega (arith, x_range.most, q_range.most)) in
      let S = s.count in
      let n = near_one 1 (2 ^ 53) S (X + P) s.near in
      let a = near_alike 1 (2 ^ 53) S (X + P) (lit< tt) (lit≤ tt) n in
      let lo : 2 ^ 27 * unit ≤ S = omega (arith, a.least, q_range.least) in
      let hi : S ≤ 2 ^ 38 * unit = omega (arith, a.most, x_range.most, q_range.most) in
      let e : S * (half.count * 2) ≡ S * unit = ap (λ (z : ℕ). S * z) half.twice in
      let y = rounded_product (add binary64 x q) (from_bits binary64 0x3fe0_0000_0000_0000) S half.count s.holds half.holds (omega (arith, mul-le-mul_right unit lo, mul-le-mul_right unit unit_large)) (omega (arith, mul-le-mul_right unit hi)) in
      let m = y.near in
      record {
        count = y.count;
        holds = y.holds;
        near = step_rounded X T P S y.count near n (near_unscale 1 (2 ^ 53) (2 * y.count) S unit unit_positive (record { above = omega (arith, m.above); below = omega (arith, m.below) }));
      }

-- x is a guess at the root of w whose square is within n / d of w
pub record Guess (w n d : ℕ) (x : Float) : Type 0 where
  pub count : ℕ
  pub holds : Holds x count
  pub near : Near n d (count * count) (w * (unit * unit))

module _ (w : ℕ) (word : Word w) (p : Parts w) where
  abbrev target : ℕ
  target = w * (unit * unit)

  -- a step by any quotient of the word by x
  advance : (n d m e : ℕ) (x q : Float) (D : 0 < d) (l : n * 4 ≤ d) → Gain n d m e → (g : Guess w n d x) → Divided w g.count q → Guess w m e (mean x q)
  advance n d m e x q D l gain g h =
      let X = g.count in
      let r = ranged n d X w unit D l word g.near in
      let s = mean_steps x q X h.count target g.holds h.holds r (between w X h.count unit unit_positive word r h.near) h.near in
      record {
        count = s.count;
        holds = s.holds;
        near = gain X s.count target (omega (arith, r.least, unit_large)) (double_square n d X target D l g.near) g.near s.near;
      }

  by_high : (n d m e : ℕ) (x : Float) (D : 0 < d) (l : n * 4 ≤ d) → Gain n d m e → Guess w n d x → Guess w m e (stepped x (held_high w))
  by_high n d m e x D l gain g = advance n d m e x (div binary64 (held_high w) x) D l gain g (divided_high w word p x g.count g.holds (ranged n d g.count w unit D l word g.near))

  first : Guess w 1 8 (first_guess w)
  unfolding of_int
  first =
      let n = guessed w in
      let h = near_scale 1 8 (n * n) w (unit * unit) (guessed_square w word) in
      record {
        count = n * unit;
        holds = rescale (round binary64 false n 1) false n 1 (n * unit) unit (lit< tt) (mul-one (n * unit)) (round_whole binary64 false n (omega (arith, word.most)));
        near = record { above = omega (arith, h.above); below = omega (arith, h.below) };
      }

  -- after the three steps by the high part
  abbrev thrice : Float
  thrice = stepped (stepped (stepped (first_guess w) (held_high w)) (held_high w)) (held_high w)

  third : Guess w 1 (2 ^ 28) thrice
  third =
      let b = by_high 1 8 1 120 (first_guess w) (lit< tt) (lit≤ tt) first_gain first in
      let c = by_high 1 120 1 (2 ^ 14) _ (lit< tt) (lit≤ tt) second_gain b in
      by_high 1 (2 ^ 14) 1 (2 ^ 28) _ (lit< tt) (lit≤ tt) third_gain c

  third_range : Ranged unit third.count
  third_range = ranged 1 (2 ^ 28) third.count w unit (lit< tt) (lit≤ tt) word third.near

  -- the last step, by both parts
  pub root_guess : Guess w 24 (2 ^ 54) (improved (first_guess w) (held_high w) (held_low w))
  root_guess =
      advance 1 (2 ^ 28) 24 (2 ^ 54) thrice (add binary64 (div binary64 (held_high w) thrice) (div binary64 (held_low w) thrice)) (lit< tt) (lit≤ tt) last_gain third
      (divided_both w word p thrice third.count third.holds third_range (held_low w) p.low_is)

  -- a zero of either sign as low part makes no difference
  pub same_root : (lo : Float) → Is lo p.low → improved (first_guess w) (held_high w) lo ≡ improved (first_guess w) (held_high w) (held_low w)
  same_root lo l = ap (mean thrice) (same_sum w word p thrice third.count third.holds third_range lo (held_low w) l p.low_is)
