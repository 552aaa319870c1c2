-- The root times 2 ^ 22, cut to a whole number, is within 15 of the word's root; kept to 54 bits it comes no further from it.
use Rattle.std.specs.Prelude.{◌≡◌, ℕ, ◌+◌, ◌-◌, ◌*◌, ◌/◌, ◌^◌, ◌<◌, ◌≤◌, min, max, true, false, T, from_bits, Float}
use Rattle.std.proofs.Common.{sym, ◌∙◌, subst, true≢false, mul-pos, mul-le-mul_right, lt_of_mul-lt-mul_right, div-lt_iff_lt-mul, div-mul-le_self, div-add-mod', mod-lt, arith, lit<, lit≤, lt→ltb}
use Rattle.std.proofs.Math.Path.{ap}
use Rattle.std.specs.Float.{nan, inf, fin, binary64}
use Rattle.std.specs.Float.Ieee.{up, down, to_unsigned, lt, fits}
use Rattle.std.specs.Float.Ieee.Fits.{down_pos}
use Rattle.std.specs.Float.Ieee.Nearest.{div_same}
use Rattle.floats.specs.Units.{unit}
use Rattle.floats.specs.Near.{Near}
use Rattle.floats.specs.Holds.{Holds}
use Rattle.floats.proofs.Values.{unit_positive}
use Rattle.floats.proofs.Nearness.{near_unscale, near_alike}
use Rattle.floats.proofs.Operations.{unit_large, rounded_product}
use Rattle.sources.specs.Source.{Word, WordRoot, Within, Sound}
use Rattle.sources.specs.Words.{root_least, root_most}
use Rattle.float_source.specs.FloatProposal.{held_high, held_low, Held, first_guess, improved, scaled, InRange, cut, float_proposal, float_source}
use Rattle.float_source.specs.Gains.{ranged, scaled_square, close}
use Rattle.float_source.specs.Constants.{scale_holds}
use Rattle.float_source.specs.WordParts.{parts, same_low}
use Rattle.float_source.specs.Steps.{Guess, root_guess, same_root}

-- x * 2 ^ 22 for a guess x at the root of w
record Scaled (w : ℕ) (x : Float) : Type 0 where
  count : ℕ
  holds : Holds (scaled x) count
  near : Near 29 (2 ^ 54) (count * count) (w * (unit * unit) * 2 ^ 44)
  most : count < 2 ^ 60 * unit

scaled_guess : (w : ℕ) (x : Float) → Word w → Guess w 24 (2 ^ 54) x → Scaled w x
scaled_guess w x word g =
    let Y = g.count in
    let r = ranged 24 (2 ^ 54) Y w unit (lit< tt) (lit≤ tt) word g.near in
    let lo = r.least in
    let hi = r.most in
    let z = rounded_product x (from_bits binary64 0x4150_0000_0000_0000) Y (2 ^ 22 * unit) g.holds scale_holds (omega (arith, mul-le-mul_right unit lo, mul-le-mul_right unit unit_large)) (omega (arith, mul-le-mul_right unit hi)) in
    let m = z.near in
    let k : Near 1 (2 ^ 53) z.count (Y * 2 ^ 22) = near_unscale 1 (2 ^ 53) z.count (Y * 2 ^ 22) unit unit_positive (record { above = omega (arith, m.above); below = omega (arith, m.below) }) in
    let a = near_alike 1 (2 ^ 53) z.count (Y * 2 ^ 22) (lit< tt) (lit≤ tt) k in
    record { count = z.count; holds = z.holds; near = scaled_square Y z.count (w * (unit * unit)) g.near k; most = omega (arith, a.most, unit_large) }

-- The cut to a whole number.

uncapped : (a b : ℕ) → a < 2 ^ 64 → a ≡ b → min a (2 ^ 64 - 1) ≡ b
uncapped a b h e = omega arith

cut_is : (x : Float) (z : ℕ) → Holds x z → z / unit < 2 ^ 64 → to_unsigned 64 x ≡ z / unit
unfolding to_unsigned
cut_is nan z v h = absurd v
cut_is (inf s) z v h = absurd v
cut_is (fin true m e) z v h = absurd (true≢false v.0)
cut_is (fin false m e) z v h =
    let q : m * up e / down e ≡ z / unit = div_same (m * up e) (down e) z unit (down_pos e) unit_positive v.1 in
    uncapped (m * up e / down e) (z / unit) (subst (λ (y : ℕ). y < 2 ^ 64) (sym q) h) q

in_range : (x : Float) (z : ℕ) → Holds x z → z < 2 ^ 60 * unit → InRange x
unfolding lt
in_range nan z v h = absurd v
in_range (inf s) z v h = absurd v
in_range (fin true m e) z v h = absurd (true≢false v.0)
in_range (fin false m e) z v h = record {
  least = lt→ltb 0 (1 * 1 * down e + m * up e * 1) (omega (arith, down_pos e));
  most = lt→ltb (m * up e * 1) (1 * 2 ^ 64 * down e) (below (m * up e) (down e) v.1 (down_pos e));
}
  where
    below : (x d : ℕ) → x * unit ≡ z * d → 0 < d → x * 1 < 1 * 2 ^ 64 * d
    below x d e D = lt_of_mul-lt-mul_right unit (omega (arith, mul-le-mul_right d h, mul-pos D unit_positive))

-- What the source proposes.

module _ (w : ℕ) (word : Word w) where
  abbrev root : Float
  root = improved (first_guess w) (held_high w) (held_low w)

  scaled_root : Scaled w root
  scaled_root = scaled_guess w root word (root_guess w word (parts w word))

  whole_near : (s : ℕ) → WordRoot w s → Within 15 s (to_unsigned 64 (scaled root))
  whole_near s r =
      let z = scaled_root.count in
      let g = z / unit in
      let small : g < 2 ^ 64 = (div-lt_iff_lt-mul unit_positive).1 (omega (arith, scaled_root.most, unit_large)) in
      let hi : z < (g + 1) * unit = omega (arith, div-add-mod' z unit, mod-lt z unit_positive) in
      subst (Within 15 s) (sym (cut_is (scaled root) z scaled_root.holds small))
      (close z w unit g s unit_positive scaled_root.near (div-mul-le_self z unit) hi r (root_most w s word r) (root_least w s word r))

  kept_near : (p s : ℕ) → Within 15 s p → 2 ^ 53 ≤ s → s < 2 ^ 54 → Within 16 s (max (min p (2 ^ 54 - 1)) (2 ^ 53))
  kept_near p s h a b = record { above = omega (arith, h.above); below = omega (arith, h.below) }

  proposal_near : (s : ℕ) → WordRoot w s → Within (2 ^ 4) s (float_proposal w)
  unfolding float_proposal
  proposal_near s r = kept_near (to_unsigned 64 (scaled root)) s (whole_near s r) (root_least w s word r) (root_most w s word r)

-- The code's floats are those: g is its guess, hi and lo its pair and x the improved guess.
module _ (w : ℕ) (word : Word w) (g hi lo x : Float) (first : g ≡ first_guess w) (held : Held w hi lo) (fit : fits binary64 lo ≡ true) (steps : x ≡ improved g hi lo) where
  computed : x ≡ root w word
  computed =
      let p = parts w word in
      steps
      ∙ (λ i. improved (first i) (held.nearest i) lo)
      ∙ same_root w word p lo (same_low w p hi lo (subst T (sym fit) tt) held)

  pub can_be_cut : InRange (scaled x)
  can_be_cut =
      let z = scaled_root w word in
      subst (λ (y : Float). InRange (scaled y)) (sym computed) (in_range (scaled (root w word)) z.count z.holds z.most)

  pub is_proposal : (r : ℕ) → r ≡ cut x → r ≡ float_proposal w
  unfolding float_proposal
  is_proposal r e = e ∙ ap cut computed

proposal_least : (w : ℕ) → 2 ^ 53 ≤ float_proposal w
unfolding float_proposal
proposal_least w = omega arith

proposal_most : (w : ℕ) → float_proposal w < 2 ^ 54
unfolding float_proposal
proposal_most w = omega arith

pub float_sound : Sound float_source
float_sound = record {
  graded = omega arith;
  least = λ w h. proposal_least w;
  most = λ w h. proposal_most w;
  near = λ w s h root. proposal_near w h s root;
}
