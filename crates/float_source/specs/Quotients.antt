-- The word over a guess. The quotient of the high part alone is within two roundings of it, and with the low part's quotient added within three.
use Rattle.std.specs.Prelude.{◌≡◌, ℕ, suc, ◌+◌, ◌*◌, ◌^◌, ◌<◌, ◌≤◌, false, ℤ, pos, negsuc, ◌+ℤ◌, neg_ℤ, unsigned_abs, Float}
use Rattle.std.proofs.Common.{sym, ap, ◌∙◌, mul-le-mul_left, mul-le-mul_right, le_of_mul-le-mul_right, arith, lit<, lit≤}
use Rattle.std.specs.Float.{binary64}
use Rattle.std.specs.Float.Ieee.{round, add, div}
use Rattle.std.specs.Float.Ieee.Scale.{grid}
use Rattle.std.proofs.lemmas.Int.{ints}
use Rattle.floats.specs.Units.{unit}
use Rattle.floats.specs.Near.{Near}
use Rattle.floats.specs.Holds.{Holds}
use Rattle.floats.proofs.Values.{Is, unit_positive}
use Rattle.floats.proofs.Nearness.{near_scale, near_chain, near_weaken, near_alike, near_one}
use Rattle.floats.proofs.Operations.{unit_large, Rounded, rounded_quotient, rounded_whole}
use Rattle.floats.proofs.SignedParts.{quotient, quotient_is, quotient_most, sum_with}
use Rattle.sources.specs.Source.{Word}
use Rattle.float_source.specs.Gains.{Ranged}
use Rattle.float_source.specs.FloatProposal.{held_high}
use Rattle.float_source.specs.WordParts.{Parts}

-- How large a quotient P of w by X is.
pub record Between (U P : ℕ) : Type 0 where
  pub least : 2 ^ 28 * U ≤ P
  pub most : P ≤ 2 ^ 36 * U

pub between : (w X P U : ℕ) → 0 < U → Word w → Ranged U X → Near 7 (2 ^ 54) (P * X) (w * (U * U)) → Between U P
between w X P U u word x n =
    let a = near_alike 7 (2 ^ 54) (P * X) (w * (U * U)) (lit< tt) (lit≤ tt) n in
    let lo = mul-le-mul_right (U * U) word.least in
    let hi = mul-le-mul_right (U * U) word.most in
    record {
      least = le_of_mul-le-mul_right {k = 2 ^ 33 * U} (omega (arith, a.least, mul-le-mul_left P x.most)) (omega arith);
      most = le_of_mul-le-mul_right {k = 2 ^ 30 * U} (omega (arith, a.most, mul-le-mul_left P x.least)) (omega arith);
    }

-- The high part, H units, is the nearest to w, and Q is its quotient by X, rounded.
module _ (w X H Q U : ℕ) (h : Near 1 (2 ^ 53) H (w * U)) (q : Near 1 (2 ^ 53) (Q * X) (H * U)) where
  pub high_quotient_near : Near 7 (2 ^ 54) (Q * X) (w * (U * U))
  high_quotient_near =
      let s = near_scale 1 (2 ^ 53) H (w * U) U h in
      let t : Near 1 (2 ^ 53) (H * U) (w * (U * U)) = record { above = omega (arith, s.above); below = omega (arith, s.below) } in
      near_weaken _ _ 7 (2 ^ 54) (Q * X) (w * (U * U)) (lit< tt) (lit≤ tt) (near_chain 1 (2 ^ 53) 1 (2 ^ 53) (Q * X) (H * U) (w * (U * U)) q t)

  -- the low part is l units, added or taken away, and r is at most twice its quotient: so r is off by at most l / X itself, a rounding's worth
  with_more : (l r : ℕ) → H + l ≡ w * U → r * X ≤ l * U * 2 → Near 9 (2 ^ 55) ((Q + r) * X) (w * (U * U))
  with_more l r e s =
      let a = ap (λ (z : ℕ). z * U) e in
      let b : l * 2 ^ 53 ≤ w * U = omega (arith, h.below) in
      let c = mul-le-mul_right U b in
      record { above = omega (arith, q.above); below = omega (arith, q.below) }

  with_less : (l r N : ℕ) → H ≡ w * U + l → r * X ≤ l * U * 2 → N + r ≡ Q → Near 9 (2 ^ 55) (N * X) (w * (U * U))
  with_less l r N e s f =
      let a = ap (λ (z : ℕ). z * U) e in
      let b : l * 2 ^ 53 ≤ w * U = omega (arith, h.above) in
      let c = mul-le-mul_right U b in
      let d = ap (λ (z : ℕ). z * X) f in
      record { above = omega (arith, q.above); below = omega (arith, q.below) }

  -- and r is far smaller than Q
  small : (l r : ℕ) → 0 < X → l * 2 ^ 53 ≤ w * U → r * X ≤ l * U * 2 → r ≤ Q
  small l r P m s =
      let a = near_alike 7 (2 ^ 54) (Q * X) (w * (U * U)) (lit< tt) (lit≤ tt) high_quotient_near in
      le_of_mul-le-mul_right {k = X} (omega (arith, a.least, mul-le-mul_right U m)) P

-- The same with the low part L and its quotient, with their signs.
module _ (w X H Q : ℕ) (P : 0 < X) (h : Near 1 (2 ^ 53) H (w * unit)) (q : Near 1 (2 ^ 53) (Q * X) (H * unit)) where
  low_quotient_small : (L : ℤ) → pos H +ℤ L ≡ pos (w * unit) → unsigned_abs (quotient L X) ≤ Q
  low_quotient_small (pos l) e = small w X H Q unit h q l (grid binary64 l X) P (omega (arith, ints, h.below)) (quotient_most l X P)
  low_quotient_small (negsuc l) e =
      let a : grid binary64 (suc l) X ≤ Q = small w X H Q unit h q (suc l) (grid binary64 (suc l) X) P (omega (arith, ints, h.above)) (quotient_most (suc l) X P) in
      omega (arith, ints)

  both_near : (L : ℤ) → pos H +ℤ L ≡ pos (w * unit) → Near 9 (2 ^ 55) (unsigned_abs (pos Q +ℤ quotient L X) * X) (w * (unit * unit))
  both_near (pos l) e = with_more w X H Q unit h q l (grid binary64 l X) (omega (arith, ints)) (quotient_most l X P)
  both_near (negsuc l) e =
      let r = grid binary64 (suc l) X in
      let a : r ≤ Q = small w X H Q unit h q (suc l) r P (omega (arith, ints, h.above)) (quotient_most (suc l) X P) in
      with_less w X H Q unit h q (suc l) r (unsigned_abs (pos Q +ℤ neg_ℤ (pos r))) (omega (arith, ints)) (quotient_most (suc l) X P) (omega (arith, ints))

-- q is the word over X, by at most three roundings
pub record Divided (w X : ℕ) (q : Float) : Type 0 where
  pub count : ℕ
  pub holds : Holds q count
  pub near : Near 7 (2 ^ 54) (count * X) (w * (unit * unit))

module _ (w : ℕ) (word : Word w) (p : Parts w) (x : Float) (X : ℕ) (x_holds : Holds x X) (range : Ranged unit X) where
  abbrev by_high : Float
  by_high = div binary64 (held_high w) x

  positive : 0 < X
  positive = omega (arith, range.least, unit_large)

  high_quotient : Rounded by_high X (p.high * unit)
  high_quotient =
      let H = p.high in
      let a = near_alike 1 (2 ^ 53) H (w * unit) (lit< tt) (lit≤ tt) p.high_near in
      let b = mul-le-mul_right unit word.least in
      let c = mul-le-mul_right unit word.most in
      let d : 2 ^ 61 * unit ≤ H = omega (arith, a.least) in
      let e : H ≤ 2 ^ 65 * unit = omega (arith, a.most) in
      rounded_quotient (held_high w) x H X p.high_holds x_holds positive (omega (arith, range.most, mul-le-mul_right unit d, mul-le-mul_right unit unit_large)) (omega (arith, range.least))

  pub divided_high : Divided w X by_high
  divided_high = let q = high_quotient in record { count = q.count; holds = q.holds; near = high_quotient_near w X p.high q.count unit p.high_near q.near }

  -- the exact sum of the quotients of the parts
  abbrev sum_count : ℕ
  sum_count = unsigned_abs (pos high_quotient.count +ℤ quotient p.low X)

  low_most : unsigned_abs p.low ≤ 2 ^ 66 * X
  low_most =
      let a = near_alike 1 (2 ^ 53) p.high (w * unit) (lit< tt) (lit≤ tt) p.high_near in
      let b = mul-le-mul_right unit word.most in
      let c : unsigned_abs p.low ≤ p.high + w * unit = omega (arith, ints, p.exact) in
      omega (arith, a.most, range.least)

  sum_is : (lo : Float) → Is lo p.low → add binary64 by_high (div binary64 lo x) ≡ round binary64 false sum_count unit
  sum_is lo l =
      let q = high_quotient in
      sum_with by_high (div binary64 lo x) q.count (quotient p.low X) q.holds (quotient_is lo x p.low X l x_holds positive low_most) (low_quotient_small w X p.high q.count positive p.high_near q.near p.low p.exact)

  pub same_sum : (lo lo' : Float) → Is lo p.low → Is lo' p.low → add binary64 by_high (div binary64 lo x) ≡ add binary64 by_high (div binary64 lo' x)
  same_sum lo lo' l l' = sum_is lo l ∙ sym (sum_is lo' l')

  pub divided_both : (lo : Float) → Is lo p.low → Divided w X (add binary64 by_high (div binary64 lo x))
  divided_both lo l =
      let q = high_quotient in
      let n = both_near w X p.high q.count positive p.high_near q.near p.low p.exact in
      let b = between w X sum_count unit unit_positive word range (near_weaken 9 (2 ^ 55) 7 (2 ^ 54) (sum_count * X) (w * (unit * unit)) (lit< tt) (lit≤ tt) n) in
      let r = rounded_whole (add binary64 by_high (div binary64 lo x)) sum_count (sum_is lo l) (omega (arith, b.least, unit_large)) (omega (arith, b.most)) in
      record {
        count = r.count;
        holds = r.holds;
        near = near_weaken _ _ 7 (2 ^ 54) (r.count * X) (w * (unit * unit)) (lit< tt) (lit≤ tt)
            (near_chain 1 (2 ^ 53) 9 (2 ^ 55) (r.count * X) (sum_count * X) (w * (unit * unit)) (near_scale 1 (2 ^ 53) r.count sum_count X (near_one 1 (2 ^ 53) r.count sum_count r.near)) n);
      }
