-- What is asked, by its plain cases or by a posed root, and its length; the sides in any order.
use Rattle.std.proofs.Common.{◌≡◌, ℕ, ◌+◌, ◌*◌, cond, ◌||◌, eqb, leb, ◌⊎◌, List, [], ◌∷◌, Some, None, Option, sym, refl, ap, ◌∙◌, subst, inl, inr}
use Rattle.exact.specs.declared.form.Form.{Form}
use Rattle.exact.specs.declared.length.Magnitude.{Magnitude}
use Rattle.exact.specs.Value.{Value}
use Rattle.forms.specs.declared.reading.Reading.{Reading}
use Rattle.forms.specs.Encoding.{Encoding, Lawful}
use Rattle.sides.specs.declared.side.Side.{Side}
use Rattle.sides.specs.declared.ordered.Ordered.{Ordered}
use Rattle.sides.specs.Order.{side_units, descending, first, is_far}
use Rattle.sides.specs.Listed.{ordered_units}
use Rattle.sides.specs.HeadSum.{sum_in_order}
use Rattle.sides.specs.declared.posed.Posed.{Posed}
use Rattle.sides.specs.Poses.{squares, Poses}
use Rattle.sides.proofs.Descending.{squares_descending}
use Rattle.sources.specs.Source.{Source}
use Rattle.triangle.specs.Outcome.{magnitude, sum_of_squares, hypot_outcome, leg_outcome}
use Rattle.triangle.specs.Answer.{special_pattern}
use Rattle.lengths.specs.Asked.{Asked, sum_of, difference_of, outcome, magnitudes, radicand, largest, head_of}
use Rattle.lengths.specs.Plain.{zero_pattern, or_else, plain_root, plain}
use Rattle.lengths.specs.Finite.{OfForm, SideValue, side_pattern}
use Rattle.lengths.specs.LengthOf.{root_length, unless_plain, length_asked}
use Rattle.lengths.proofs.PlainCases.{none, more, sum_values, plain_sum_is, leg_values, plain_leg_is}

module _ {P : Type 0} (encoding : Encoding P) (a : Asked) where
  -- where nothing is special, a plain case is one of finite sides
  plain_by_root : (r : Option P) → special_pattern encoding (outcome a) ≡ None → plain_root encoding a ≡ r → plain encoding a ≡ r
  plain_by_root r s q = λ i. or_else (s i) (q i)

  module _ (source : Source) where
    pub length_plain : (p : P) → plain encoding a ≡ Some p → record { pattern = p; count = 0 } ≡ length_asked encoding source a
    length_plain p q = λ i. unless_plain (sym q i) (root_length encoding source (head_of a) (radicand a) (largest a))

    pub length_posed : plain encoding a ≡ None → root_length encoding source (head_of a) (radicand a) (largest a) ≡ length_asked encoding source a
    length_posed q = λ i. unless_plain (sym q i) (root_length encoding source (head_of a) (radicand a) (largest a))

pub squares_of : (sides : List Reading) → squares (magnitudes sides) ≡ sum_of_squares sides
squares_of [] = refl
squares_of (r ∷ sides) = ap (λ (x : ℕ). magnitude r * magnitude r + x) (squares_of sides)

-- a root posed by the sides in order
pub in_order : (sides : List Reading) (units : List ℕ) (p : Posed) → units ≡ descending (magnitudes sides)
    → Poses (sum_in_order units) (squares units) (first units) p → Poses (head_of (sum_of sides)) (radicand (sum_of sides)) (largest (sum_of sides)) p
in_order sides units p e q =
    subst (λ (n : ℕ). Poses (head_of (sum_of sides)) n (largest (sum_of sides)) p) (squares_descending (magnitudes sides) ∙ squares_of sides)
    (subst (λ (l : List ℕ). Poses (sum_in_order l) (squares l) (first l) p) e q)

-- one of three magnitudes is a value where all are
pub one_value : (form : Form) (m a b c : Magnitude) → (m ≡ a) ⊎ ((m ≡ b) ⊎ (m ≡ c))
    → Value form a.significand a.exponent → Value form b.significand b.exponent → Value form c.significand c.exponent → Value form m.significand m.exponent
one_value form m a b c (inl e) x y z = subst (λ (n : Magnitude). Value form n.significand n.exponent) (sym e) x
one_value form m a b c (inr (inl e)) x y z = subst (λ (n : Magnitude). Value form n.significand n.exponent) (sym e) y
one_value form m a b c (inr (inr e)) x y z = subst (λ (n : Magnitude). Value form n.significand n.exponent) (sym e) z

-- three sides, none of them special, in the order o
module _ {P : Type 0} (encoding : Encoding P) (law : Lawful encoding) (x y z : Reading) (o : Ordered)
    (a : OfForm encoding.form x) (b : OfForm encoding.form y) (c : OfForm encoding.form z)
    (side : SideValue encoding.form o.first) (sorted : ordered_units o ≡ descending (magnitudes (x ∷ y ∷ z ∷ [])))
    (special : special_pattern encoding (hypot_outcome (x ∷ y ∷ z ∷ [])) ≡ None) where
  abbrev asked_sum : Asked
  asked_sum = sum_of (x ∷ y ∷ z ∷ [])

  abbrev tested : Option P
  tested = cond (eqb (side_units o.first) 0 || is_far (side_units o.first) (side_units o.second)) (Some (side_pattern encoding o.first)) None

  pub three_plain : plain encoding asked_sum ≡ tested
  three_plain =
      plain_by_root encoding asked_sum tested special
      (plain_sum_is encoding law x y z o (sum_values encoding (x ∷ y ∷ z ∷ []) (more a (more b (more c none))) special) side sorted)

-- a leg, its sides not special
module _ {P : Type 0} (encoding : Encoding P) (law : Lawful encoding) (x y : Reading) (s t : Side)
    (a : OfForm encoding.form x) (b : OfForm encoding.form y) (side : SideValue encoding.form s) (p : side_units s ≡ magnitude x) (q : side_units t ≡ magnitude y)
    (special : special_pattern encoding (leg_outcome x y) ≡ None) where
  abbrev tested_leg : Option P
  tested_leg = cond (leb (side_units s) (side_units t)) (Some (zero_pattern encoding)) (cond (is_far (side_units s) (side_units t)) (Some (side_pattern encoding s)) None)

  pub leg_plain : plain encoding (difference_of x y) ≡ tested_leg
  leg_plain = plain_by_root encoding (difference_of x y) tested_leg special (plain_leg_is encoding law x y s t (leg_values encoding x y a b special) side p q)
