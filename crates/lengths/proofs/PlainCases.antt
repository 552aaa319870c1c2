-- Where nothing about the sides is special they are finite, and the plain cases of finite sides are told by the largest side and
-- the next: the largest is zero, or the next is far. The pattern is then that of the largest side.
use Rattle.std.proofs.Common.{◌≡◌, ℕ, ◌≤◌, max, Bool, true, false, cond, ◌&&◌, ◌||◌, eqb, ltb, leb, List, [], ◌∷◌, Some, None, sym, refl, ap, ◌∙◌, arith, ltb-false, ltb-true, eq-eqb, ne_eqb, eqb-true, le-leb}
use Rattle.std.proofs.lemmas.Bool.{or_parts}
use borrow.Author.Tests.{eqb-false, lt-leb}
use Rattle.exact.proofs.Squares.{lt_unless}
use Rattle.exact.specs.declared.form.Form.{Form}
use Rattle.exact.specs.Value.{Value, units}
use Rattle.exact.proofs.Values.{same_parts, value_normal, some_bits}
use Rattle.forms.specs.declared.reading.Reading.{Reading}
use Rattle.forms.specs.declared.reading.Reading.TheVariants.{Finite, Infinite, QuietNan, SignallingNan}
use Rattle.forms.specs.Encoding.{Encoding, Lawful}
use Rattle.sides.specs.declared.side.Side.{Side}
use Rattle.sides.specs.declared.ordered.Ordered.{Ordered}
use Rattle.sides.specs.Order.{side_units, descending, first, is_far}
use Rattle.sides.specs.Listed.{ordered_units}
use Rattle.sides.proofs.Descending.{first_insert, far_too}
use Rattle.forms.specs.Kinds.{is_signalling, is_infinite, is_quiet, is_nan}
use Rattle.triangle.specs.Outcome.{Outcome, not_a_number, infinite, root_of, some, magnitude, sum_of_squares, difference_of_squares, hypot_outcome, leg_outcome}
use Rattle.triangle.specs.Answer.{special_pattern}
use Rattle.lengths.specs.Asked.{sum_of, difference_of, magnitudes}
use Rattle.lengths.specs.Plain.{all_zero, is_empty, others_far, longest, magnitude_pattern, zero_pattern, longest_pattern, plain_root}
use Rattle.lengths.specs.Finite.{OfForm, SideValue, side_pattern}
use Rattle.lengths.proofs.Finites.{zero_value}

-- Finite readings.

-- a reading that is a value of the form
pub record IsValue (form : Form) (r : Reading) : Type 0 where
  pub negative : Bool
  pub k : ℕ
  pub e : ℕ
  pub is : r ≡ Finite negative k e
  pub value : Value form k e

finite_value : (form : Form) (r : Reading) → OfForm form r → is_signalling r ≡ false → is_infinite r ≡ false → is_quiet r ≡ false → IsValue form r
finite_value form (Finite n k e) o a b c = record { negative = n; k = k; e = e; is = refl; value = o n k e refl }
finite_value form (Infinite n) o a b c = cc
finite_value form QuietNan o a b c = cc
finite_value form SignallingNan o a b c = cc

pub data Each (P : Reading → Type 0) : List Reading → Type 0 where
  none : Each P []
  more : {r : Reading} {sides : List Reading} → P r → Each P sides → Each P (r ∷ sides)

abbrev pub Values : Form → List Reading → Type 0
Values form = Each (IsValue form)

abbrev pub OfForms : Form → List Reading → Type 0
OfForms form = Each (OfForm form)

all_values : (form : Form) (sides : List Reading) → OfForms form sides → some is_signalling sides ≡ false → some is_infinite sides ≡ false → some is_quiet sides ≡ false → Values form sides
all_values form [] none a b c = none
all_values form (r ∷ sides) (more o os) a b c =
    let p = or_parts (is_signalling r) (some is_signalling sides) a in
    let q = or_parts (is_infinite r) (some is_infinite sides) b in
    let s = or_parts (is_quiet r) (some is_quiet sides) c in
    more (finite_value form r o p.0 q.0 s.0) (all_values form sides os p.1 q.1 s.1)

module _ {P : Type 0} (encoding : Encoding P) where
  -- the three tests in their order
  pub chosen : Bool → Bool → Bool → ℕ → Outcome
  chosen a b c n = cond a not_a_number (cond b infinite (cond c not_a_number (root_of n)))

  none_chosen : (a b c : Bool) (n : ℕ) → special_pattern encoding (chosen a b c n) ≡ None → (a ≡ false) × (b ≡ false) × (c ≡ false)
  unfolding chosen
  none_chosen true b c n q = cc
  none_chosen false true c n q = cc
  none_chosen false false true n q = cc
  none_chosen false false false n q = (refl, refl, refl)

  pub sum_values : (sides : List Reading) → OfForms encoding.form sides → special_pattern encoding (hypot_outcome sides) ≡ None → Values encoding.form sides
  unfolding chosen
  sum_values sides o q =
      let t = none_chosen (some is_signalling sides) (some is_infinite sides) (some is_quiet sides) (sum_of_squares sides) q in
      all_values encoding.form sides o t.0 t.1 t.2

-- The largest of finite sides.

pub all_zero_is : (sides : List Reading) → all_zero sides ≡ eqb (first (descending (magnitudes sides))) 0
all_zero_is [] = refl
all_zero_is (r ∷ sides) =
    ap (λ (b : Bool). eqb (magnitude r) 0 && b) (all_zero_is sides) ∙ both (magnitude r) (first (descending (magnitudes sides)))
    ∙ ap (λ (x : ℕ). eqb x 0) (sym (first_insert (magnitude r) (descending (magnitudes sides)) ∙ refl))
  where
    both : (a b : ℕ) → (eqb a 0 && eqb b 0) ≡ eqb (max a b) 0
    both a b = go (eqb a 0) (eqb b 0) refl refl
      where
        go : (s t : Bool) → eqb a 0 ≡ s → eqb b 0 ≡ t → (s && t) ≡ eqb (max a b) 0
        go true true p q = sym (eq-eqb (max a b) 0 (omega (arith, eqb-true a 0 p, eqb-true b 0 q)))
        go true false p q = let d : b ≡ 0 → ⊥ = eqb-false b 0 q in sym (ne_eqb (max a b) 0 (λ z. d (omega arith)))
        go false t p q = let d : a ≡ 0 → ⊥ = eqb-false a 0 p in sym (ne_eqb (max a b) 0 (λ z. d (omega arith)))

-- the longest of values is a value, and its magnitude is the largest
pub longest_value : (form : Form) (x : Reading) (sides : List Reading) → IsValue form x → Values form sides → IsValue form (longest x sides)
longest_value form x [] v none = v
longest_value form x (y ∷ sides) v (more w ws) = longest_value form (cond (ltb (magnitude x) (magnitude y)) y x) sides (chosen_value (ltb (magnitude x) (magnitude y))) ws
  where
    chosen_value : (b : Bool) → IsValue form (cond b y x)
    chosen_value true = w
    chosen_value false = v

pub longest_is : (x : Reading) (sides : List Reading) → magnitude (longest x sides) ≡ max (magnitude x) (first (descending (magnitudes sides)))
longest_is x [] = omega arith
longest_is x (y ∷ sides) =
    longest_is (cond (ltb (magnitude x) (magnitude y)) y x) sides
    ∙ ap (λ (z : ℕ). max z (first (descending (magnitudes sides)))) (larger (ltb (magnitude x) (magnitude y)) refl)
    ∙ regroup (magnitude x) (magnitude y) (first (descending (magnitudes sides)))
    ∙ ap (max (magnitude x)) (sym (first_insert (magnitude y) (descending (magnitudes sides))))
  where
    larger : (b : Bool) → ltb (magnitude x) (magnitude y) ≡ b → magnitude (cond b y x) ≡ max (magnitude x) (magnitude y)
    larger true e = omega (arith, ltb-true (magnitude x) (magnitude y) e)
    larger false e = omega (arith, ltb-false (magnitude x) (magnitude y) e)

    regroup : (a b c : ℕ) → max (max a b) c ≡ max a (max b c)
    regroup a b c = omega arith

-- Patterns of magnitudes: equal magnitudes have one pattern.

module _ {P : Type 0} (encoding : Encoding P) (law : Lawful encoding) where
  one_written : (k e j f : ℕ) → Value encoding.form k e → Value encoding.form j f → units k e ≡ units j f → encoding.written k e ≡ encoding.written j f
  one_written k e j f v w q =
      let s = same_parts encoding.form.precision k e j f (some_bits encoding.form law.in_range) (value_normal encoding.form law.in_range k e v) (value_normal encoding.form law.in_range j f w) q in
      λ i. encoding.written (s.0 i) (s.1 i)

  -- the pattern of a reading's magnitude is that of a side as long
  pub reading_pattern : (r : Reading) (s : Side) → IsValue encoding.form r → SideValue encoding.form s → magnitude r ≡ side_units s → magnitude_pattern encoding r ≡ side_pattern encoding s
  reading_pattern r s v w q =
      ap (magnitude_pattern encoding) v.is
      ∙ one_written v.k v.e s.magnitude.significand s.magnitude.exponent v.value w (sym (ap magnitude v.is) ∙ q)

  pub zero_side : (s : Side) → SideValue encoding.form s → side_units s ≡ 0 → zero_pattern encoding ≡ side_pattern encoding s
  zero_side s w q = one_written 0 0 s.magnitude.significand s.magnitude.exponent (zero_value encoding.form law.in_range) w (sym q)

  -- of sides in descending order, all but the first are far where the second is
  pub far_others : (v u w : ℕ) → w ≤ u → others_far (v ∷ u ∷ w ∷ []) ≡ is_far v u
  far_others v u w h = go (is_far v u) refl
    where
      go : (b : Bool) → is_far v u ≡ b → is_empty (cond (is_far v u) (cond (is_far v w) [] (w ∷ [])) (u ∷ cond (is_far v w) [] (w ∷ []))) ≡ is_far v u
      go true e = (λ i. is_empty (cond (e i) (cond (far_too v u w h e i) [] (w ∷ [])) (u ∷ cond (is_far v w) [] (w ∷ [])))) ∙ sym e
      go false e = (λ i. is_empty (cond (e i) (cond (is_far v w) [] (w ∷ [])) (u ∷ cond (is_far v w) [] (w ∷ [])))) ∙ sym e

  -- the plain cases of three finite sides
  module _ (x y z : Reading) (o : Ordered) (values : Values encoding.form (x ∷ y ∷ z ∷ [])) (side : SideValue encoding.form o.first)
      (sorted : ordered_units o ≡ descending (magnitudes (x ∷ y ∷ z ∷ []))) where
    abbrev sides : List Reading
    sides = x ∷ y ∷ z ∷ []

    abbrev u : ℕ
    u = side_units o.first

    abbrev v : ℕ
    v = side_units o.second

    largest_is : first (descending (magnitudes sides)) ≡ u
    largest_is = ap first (sym sorted)

    longest_pattern_is : longest_pattern encoding sides ≡ side_pattern encoding o.first
    longest_pattern_is = by_values values
      where
        by_values : Values encoding.form (x ∷ y ∷ z ∷ []) → longest_pattern encoding sides ≡ side_pattern encoding o.first
        by_values (more a rest) =
            reading_pattern (longest x (y ∷ z ∷ [])) o.first (longest_value encoding.form x (y ∷ z ∷ []) a rest) side
            (longest_is x (y ∷ z ∷ []) ∙ sym (first_insert (magnitude x) (descending (magnitudes (y ∷ z ∷ [])))) ∙ largest_is)

    far_is : others_far (descending (magnitudes sides)) ≡ is_far u v
    far_is = ap others_far (sym sorted) ∙ far_others u v (side_units o.third) o.order.1

    pub plain_sum_is : plain_root encoding (sum_of sides) ≡ cond (eqb u 0 || is_far u v) (Some (side_pattern encoding o.first)) None
    plain_sum_is =
        (λ i. cond ((all_zero_is sides ∙ ap (λ (n : ℕ). eqb n 0) largest_is) i) (Some (zero_pattern encoding)) (cond (far_is i) (Some (longest_pattern_is i)) None))
        ∙ go (eqb u 0) (is_far u v) refl
      where
        go : (a b : Bool) → eqb u 0 ≡ a → cond a (Some (zero_pattern encoding)) (cond b (Some (side_pattern encoding o.first)) None) ≡ cond (a || b) (Some (side_pattern encoding o.first)) None
        go true b e = ap Some (zero_side o.first side (eqb-true u 0 e))
        go false true e = refl
        go false false e = refl

-- The plain cases of a leg.

module _ {P : Type 0} (encoding : Encoding P) where
  -- the four tests in their order
  leg_chosen : Bool → Bool → Bool → Bool → ℕ → Outcome
  leg_chosen a b c d n = cond a not_a_number (cond b not_a_number (cond c infinite (cond d not_a_number (root_of n))))

  none_left : (a b c d : Bool) (n : ℕ) → special_pattern encoding (leg_chosen a b c d n) ≡ None → (a ≡ false) × (b ≡ false) × (c ≡ false) × (d ≡ false)
  unfolding leg_chosen
  none_left true b c d n q = cc
  none_left false true c d n q = cc
  none_left false false true d n q = cc
  none_left false false false true n q = cc
  none_left false false false false n q = (refl, refl, refl, refl)

  pub record Leg (x y : Reading) : Type 0 where
    pub hypotenuse : IsValue encoding.form x
    pub other : IsValue encoding.form y
    pub not_shorter : magnitude y ≤ magnitude x

  pub leg_values : (x y : Reading) → OfForm encoding.form x → OfForm encoding.form y → special_pattern encoding (leg_outcome x y) ≡ None → Leg x y
  unfolding leg_chosen
  leg_values x y o w q =
      let t = none_left (is_nan x || is_nan y) (is_infinite y) (is_infinite x) (ltb (magnitude x) (magnitude y)) (difference_of_squares x y) q in
      let nans = or_parts (is_nan x) (is_nan y) t.0 in
      let n = or_parts (is_signalling x) (is_quiet x) nans.0 in
      let m = or_parts (is_signalling y) (is_quiet y) nans.1 in
      record {
        hypotenuse = finite_value encoding.form x o n.0 t.2 n.1;
        other = finite_value encoding.form y w m.0 t.1 m.1;
        not_shorter = ltb-false (magnitude x) (magnitude y) t.3;
      }

  pub plain_leg_is : Lawful encoding → (x y : Reading) (s t : Side) → Leg x y → SideValue encoding.form s → side_units s ≡ magnitude x → side_units t ≡ magnitude y
      → plain_root encoding (difference_of x y)
      ≡ cond (leb (side_units s) (side_units t)) (Some (zero_pattern encoding)) (cond (is_far (side_units s) (side_units t)) (Some (side_pattern encoding s)) None)
  plain_leg_is law x y s t l v p q =
      λ i. cond (same i) (Some (zero_pattern encoding)) (cond (is_far (sym p i) (sym q i)) (Some (reading_pattern encoding law x s l.hypotenuse v (sym p) i)) None)
    where
      same : eqb (magnitude x) (magnitude y) ≡ leb (side_units s) (side_units t)
      same = go (eqb (magnitude x) (magnitude y)) refl ∙ (λ i. leb (sym p i) (sym q i))
        where
          go : (b : Bool) → eqb (magnitude x) (magnitude y) ≡ b → b ≡ leb (magnitude x) (magnitude y)
          go true e = sym (le-leb (magnitude x) (magnitude y) (omega (arith, eqb-true (magnitude x) (magnitude y) e)))
          go false e =
              let d : magnitude x ≡ magnitude y → ⊥ = eqb-false (magnitude x) (magnitude y) e in
              sym (lt-leb (magnitude x) (magnitude y) (lt_unless (magnitude y) (magnitude x) (λ (h : magnitude x ≤ magnitude y). d (omega (arith, l.not_shorter)))))

-- what a lawful form reads is of the form
pub reads_of_form : {P : Type 0} (encoding : Encoding P) → Lawful encoding → (pattern : P) (r : Reading) → r ≡ encoding.reading pattern → OfForm encoding.form r
reads_of_form encoding law pattern r q n k e is = law.reads_values pattern n k e (sym q ∙ is)
