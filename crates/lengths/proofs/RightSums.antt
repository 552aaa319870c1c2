-- The root of a sum of squares: where it is plain, the longest side is its length, and else it has a near head.
use Rattle.std.proofs.Common.{◌≡◌, ℕ, ◌+◌, ◌*◌, ◌^◌, ◌<◌, ◌≤◌, Bool, true, false, cond, ◌&&◌, eqb, List, [], ◌∷◌, Some, None, sym, refl, ap, ◌∙◌, subst, true≢false, arith, ltb-true, eqb-true}
use Rattle.std.proofs.lemmas.Nat.{mul-lt}
use lib.Ieee.{Float}
use borrow.Author.Tests.{eqb-false}
use Rattle.exact.specs.Value.{Value, units}
use Rattle.exact.specs.Length.{Length}
use Rattle.exact.proofs.Squares.{lt_unless}
use Rattle.exact.proofs.Values.{value_is_length}
use Rattle.forms.specs.declared.reading.Reading.{Reading}
use Rattle.forms.specs.Encoding.{Encoding, Lawful}
use Rattle.sides.specs.Order.{side_units, descending, first, is_far}
use Rattle.sides.specs.HeadSum.{sum_in_order}
use Rattle.sides.specs.Poses.{squares}
use Rattle.sides.proofs.Descending.{first_insert, squares_descending}
use Rattle.sides.proofs.NearHeads.{NearHead, sum_near_head}
use Rattle.forms.specs.Kinds.{is_signalling, is_infinite, is_quiet}
use Rattle.triangle.specs.Outcome.{not_a_number, infinite, root_of, some, magnitude, sum_of_squares, hypot_outcome}
use Rattle.triangle.specs.Answer.{root_pattern, special_pattern}
use Rattle.lengths.specs.Asked.{sum_of, magnitudes, radicand, largest, head_of}
use Rattle.lengths.specs.Plain.{all_zero, is_empty, others_far, longest, longest_pattern, zero_pattern, plain_root}
use Rattle.lengths.specs.Finite.{OfForm, side_pattern}
use Rattle.triangle.proofs.Answering.{writes}
use Rattle.lengths.proofs.Finites.{zero_value}
use Rattle.lengths.proofs.PlainCases.{Values, none, more, sum_values, all_zero_is, longest_value, longest_is, reading_pattern, far_others}
use Rattle.lengths.proofs.AskedLengths.{squares_of}
use Rattle.lengths.proofs.FarLengths.{length_above}
use Rattle.lengths.proofs.Sorted.{Sided, reading_sided, Three, three_sorted}
use Rattle.lengths.proofs.RightAsked.{RightAsked}
use Rattle.lengths.proofs.TwoSides.{nothing, nothing_of_form, same_plain, same_largest, same_head}

pub none_of_two : {P : Type 0} (x y : P) (a b : Bool) → cond a (Some x) (cond b (Some y) None) ≡ None → (a ≡ false) × (b ≡ false)
none_of_two x y true b e = cc
none_of_two x y false true e = cc
none_of_two x y false false e = (refl, refl)

root_chosen : (a b c : Bool) (n m : ℕ) → cond a not_a_number (cond b infinite (cond c not_a_number (root_of n))) ≡ root_of m → m ≡ n
root_chosen true b c n m e = cc
root_chosen false true c n m e = cc
root_chosen false false true n m e = cc
root_chosen false false false n m e = cc

pub leg_chosen_root : (a b c d : Bool) (n m : ℕ) → cond a not_a_number (cond b not_a_number (cond c infinite (cond d not_a_number (root_of n)))) ≡ root_of m → m ≡ n
leg_chosen_root true b c d n m e = cc
leg_chosen_root false true c d n m e = cc
leg_chosen_root false false true d n m e = cc
leg_chosen_root false false false true n m e = cc
leg_chosen_root false false false false n m e = cc

all_zero_sum : (sides : List Reading) → all_zero sides ≡ true → sum_of_squares sides ≡ 0
all_zero_sum [] e = refl
all_zero_sum (r ∷ sides) e = both (eqb (magnitude r) 0) (all_zero sides) refl e (all_zero_sum sides)
  where
    both : (a b : Bool) → eqb (magnitude r) 0 ≡ a → (a && b) ≡ true → (b ≡ true → sum_of_squares sides ≡ 0) → magnitude r * magnitude r + sum_of_squares sides ≡ 0
    both true b q e k = let z : magnitude r ≡ 0 = eqb-true (magnitude r) 0 q in omega (arith, ap (λ (x : ℕ). x * x) z, k e)
    both false b q e k = absurd (true≢false (sym e))

module _ {P : Type 0} (encoding : Encoding P) (law : Lawful encoding) where
  -- a value whose length is that of n is written for the root of n
  pub written_root : (n k e : ℕ) → Value encoding.form k e → Length encoding.form.precision n k e → encoding.written k e ≡ root_pattern encoding n
  written_root n k e v l = writes encoding law n k e l (encoding.written k e) (λ _. refl) (λ no. absurd (no v))

  pub zero_root : zero_pattern encoding ≡ root_pattern encoding 0
  zero_root = written_root 0 0 0 (zero_value encoding.form law.in_range) (value_is_length encoding.form law.in_range 0 0 (zero_value encoding.form law.in_range))

  -- sides in descending order, the first of them u
  module _ (x : Reading) (xs : List Reading) (values : Values encoding.form (x ∷ xs)) (u : ℕ) (rest : List ℕ) (U : Sided encoding.form u)
      (sorted : descending (magnitudes (x ∷ xs)) ≡ u ∷ rest) where
    largest_is : first (descending (magnitudes (x ∷ xs))) ≡ u
    largest_is = ap first sorted

    pub sum_is : u * u + squares rest ≡ sum_of_squares (x ∷ xs)
    sum_is = ap squares (sym sorted) ∙ squares_descending (magnitudes (x ∷ xs)) ∙ squares_of (x ∷ xs)

    longest_is_first : longest_pattern encoding (x ∷ xs) ≡ side_pattern encoding U.side
    longest_is_first = by_values values
      where
        by_values : Values encoding.form (x ∷ xs) → longest_pattern encoding (x ∷ xs) ≡ side_pattern encoding U.side
        by_values (more a others) =
            reading_pattern encoding law (longest x xs) U.side (longest_value encoding.form x xs a others) U.value
            (longest_is x xs ∙ sym (first_insert (magnitude x) (descending (magnitudes xs))) ∙ largest_is ∙ sym U.units_are)

    pub some_length : all_zero (x ∷ xs) ≡ false → 0 < u
    some_length e =
        let d : u ≡ 0 → ⊥ = eqb-false u 0 (ap (λ (n : ℕ). eqb n 0) (sym largest_is) ∙ sym (all_zero_is (x ∷ xs)) ∙ e) in
        lt_unless 0 u (λ (h : u ≤ 0). d (omega arith))

    -- the rest moves the root by less than half a unit
    far_root : squares rest * 2 ^ 53 < u * u → side_pattern encoding U.side ≡ root_pattern encoding (sum_of_squares (x ∷ xs))
    far_root h =
        let k = U.side.magnitude.significand in
        let e = U.side.magnitude.exponent in
        let q : units k e * units k e ≡ u * u = λ i. U.units_are i * U.units_are i in
        written_root (units k e * units k e + squares rest) k e U.value
        (length_above encoding.form law.in_range k e U.value (squares rest) (omega (arith, q, h)))
        ∙ ap (root_pattern encoding) (ap (λ (z : ℕ). z + squares rest) q ∙ sum_is)

    pub plain_sum_right : (others_far (u ∷ rest) ≡ true → 0 < u → squares rest * 2 ^ 53 < u * u) → (p : P) → plain_root encoding (sum_of (x ∷ xs)) ≡ Some p
        → p ≡ root_pattern encoding (sum_of_squares (x ∷ xs))
    plain_sum_right far p e = go (all_zero (x ∷ xs)) (others_far (descending (magnitudes (x ∷ xs)))) refl refl e
      where
        go : (a b : Bool) → all_zero (x ∷ xs) ≡ a → others_far (descending (magnitudes (x ∷ xs))) ≡ b
            → cond a (Some (zero_pattern encoding)) (cond b (Some (longest_pattern encoding (x ∷ xs))) None) ≡ Some p → p ≡ root_pattern encoding (sum_of_squares (x ∷ xs))
        go true b z f e = let q : p ≡ zero_pattern encoding = cc in q ∙ zero_root ∙ ap (root_pattern encoding) (sym (all_zero_sum (x ∷ xs) z))
        go false true z f e = let q : p ≡ longest_pattern encoding (x ∷ xs) = cc in q ∙ longest_is_first ∙ far_root (far (ap others_far (sym sorted) ∙ f) (some_length z))
        go false false z f e = cc

-- Far sides are small together.

far_square : (u v : ℕ) → is_far u v ≡ true → v * v * 2 ^ 54 < u * u
far_square u v f = let h : v * 2 ^ 27 < u = ltb-true (v * 2 ^ 27) u f in omega (arith, mul-lt _ _ _ _ h h)

both_far : (u v w : ℕ) → others_far (u ∷ v ∷ w ∷ []) ≡ true → (is_far u v ≡ true) × (is_far u w ≡ true)
both_far u v w e = go (is_far u v) (is_far u w) refl refl e
  where
    go : (b c : Bool) → is_far u v ≡ b → is_far u w ≡ c → is_empty (cond b (cond c [] (w ∷ [])) (v ∷ cond c [] (w ∷ []))) ≡ true → (is_far u v ≡ true) × (is_far u w ≡ true)
    go true true p q e = (p, q)
    go true false p q e = absurd (true≢false (sym e))
    go false c p q e = absurd (true≢false (sym e))

-- Near heads of three sides, and of two.

module _ {P : Type 0} (encoding : Encoding P) (law : Lawful encoding) where
  three_head : (u v w : ℕ) → Sided encoding.form u → Sided encoding.form v → Sided encoding.form w → v ≤ u → w ≤ v → 0 < u → is_far u v ≡ false
      → NearHead (sum_in_order (u ∷ v ∷ w ∷ [])) (squares (u ∷ v ∷ w ∷ [])) u
  three_head u v w U V W l o h f =
      subst (λ (l : List ℕ). NearHead (sum_in_order l) (squares l) (first l)) (λ i. U.units_are i ∷ V.units_are i ∷ W.units_are i ∷ [])
      (sum_near_head U.side V.side W.side
      (subst (λ (x : ℕ). 0 < x) (sym U.units_are) h)
      (let o : side_units V.side ≤ side_units U.side = omega (arith, U.units_are, V.units_are) in o)
      (let o : side_units W.side ≤ side_units U.side = omega (arith, U.units_are, W.units_are) in o)
      ((λ i. is_far (U.units_are i) (V.units_are i)) ∙ f))

  -- by the sides in any order
  headed_as : (sides : List Reading) (l : List ℕ) → descending (magnitudes sides) ≡ l → NearHead (sum_in_order l) (squares l) (first l) → NearHead (head_of (sum_of sides)) (radicand (sum_of sides)) (largest (sum_of sides))
  headed_as sides l e k =
      subst (λ (n : ℕ). NearHead (head_of (sum_of sides)) n (largest (sum_of sides))) (squares_descending (magnitudes sides) ∙ squares_of sides)
      (subst (λ (m : List ℕ). NearHead (sum_in_order m) (squares m) (first m)) (sym e) k)

  -- three sides
  module _ (x y z : Reading) (X : OfForm encoding.form x) (Y : OfForm encoding.form y) (Z : OfForm encoding.form z) where
    sorted_three : Values encoding.form (x ∷ y ∷ z ∷ []) → Three encoding.form (descending (magnitudes (x ∷ y ∷ z ∷ [])))
    sorted_three (more a (more b (more c none))) =
        three_sorted encoding.form (magnitude x) (magnitude y) (magnitude z)
        (reading_sided encoding.form law.in_range x a) (reading_sided encoding.form law.in_range y b) (reading_sided encoding.form law.in_range z c)

    three_values : special_pattern encoding (hypot_outcome (x ∷ y ∷ z ∷ [])) ≡ None → Values encoding.form (x ∷ y ∷ z ∷ [])
    three_values s = sum_values encoding (x ∷ y ∷ z ∷ []) (more X (more Y (more Z none))) s

    pub right_three : RightAsked encoding (sum_of (x ∷ y ∷ z ∷ []))
    right_three = record {
      root = λ m e. root_chosen (some is_signalling (x ∷ y ∷ z ∷ [])) (some is_infinite (x ∷ y ∷ z ∷ [])) (some is_quiet (x ∷ y ∷ z ∷ [])) (sum_of_squares (x ∷ y ∷ z ∷ [])) m e;
      plain_right = λ p e s. let t = sorted_three (three_values s) in
          plain_sum_right encoding law x (y ∷ z ∷ []) (three_values s) t.u (t.v ∷ t.w ∷ []) t.first_sided t.are
          (λ f h. let b = both_far t.u t.v t.w f in omega (arith, far_square t.u t.v b.0, far_square t.u t.w b.1)) p e;
      headed = λ e s.
          let t = sorted_three (three_values s) in
          let b = none_of_two (zero_pattern encoding) (longest_pattern encoding (x ∷ y ∷ z ∷ [])) (all_zero (x ∷ y ∷ z ∷ [])) (others_far (descending (magnitudes (x ∷ y ∷ z ∷ [])))) e in
          headed_as (x ∷ y ∷ z ∷ []) (t.u ∷ t.v ∷ t.w ∷ []) t.are
          (three_head t.u t.v t.w t.first_sided t.second_sided t.third_sided t.second t.third
          (some_length encoding law x (y ∷ z ∷ []) (three_values s) t.u (t.v ∷ t.w ∷ []) t.first_sided t.are b.0)
          (sym (far_others encoding law t.u t.v t.w t.third) ∙ ap others_far (sym t.are) ∙ b.1));
    }

  -- two sides
  pub right_two : (x y : Reading) → OfForm encoding.form x → OfForm encoding.form y → RightAsked encoding (sum_of (x ∷ y ∷ []))
  right_two x y X Y =
      let three = right_three x y nothing X Y (nothing_of_form encoding.form law.in_range) in
      record {
        root = three.root;
        plain_right = λ p e s. three.plain_right p (same_plain encoding x y ∙ e) s;
        headed = λ e s.
            subst (λ (h : Float). NearHead h (radicand (sum_of (x ∷ y ∷ []))) (largest (sum_of (x ∷ y ∷ [])))) (same_head encoding x y e)
            (subst (NearHead (head_of (sum_of (x ∷ y ∷ nothing ∷ []))) (radicand (sum_of (x ∷ y ∷ [])))) (same_largest encoding x y) (three.headed (same_plain encoding x y ∙ e) s));
      }
