-- The root of a difference of squares, and so every call.
use Rattle.std.proofs.Common.{◌≡◌, ℕ, ◌+◌, ◌-◌, ◌*◌, ◌^◌, ◌<◌, ◌≤◌, Bool, true, false, cond, ◌||◌, eqb, ltb, Some, None, sym, refl, ap, ◌∙◌, subst, mul-le-mul, arith, ltb-true, eqb-true}
use Rattle.std.proofs.lemmas.Nat.{mul-lt}
use borrow.Author.Tests.{eqb-false}
use Rattle.exact.specs.Value.{units}
use Rattle.exact.proofs.Squares.{lt_unless}
use Rattle.forms.specs.declared.reading.Reading.{Reading}
use Rattle.forms.specs.Encoding.{Encoding, Lawful}
use Rattle.sources.specs.Source.{Source, Sound}
use Rattle.sides.specs.Order.{side_units, is_far}
use Rattle.sides.specs.HeadSum.{head_difference}
use Rattle.sides.specs.Poses.{squares_apart}
use Rattle.sides.proofs.NearHeads.{NearHead, leg_near_head}
use Rattle.lengths.specs.declared.call.Call.{Call}
use Rattle.lengths.specs.declared.call.Call.TheVariants.{Hypot, Cathetus, ThreeSides}
use Rattle.forms.specs.Kinds.{is_infinite, is_nan}
use Rattle.triangle.specs.Outcome.{magnitude, difference_of_squares}
use Rattle.triangle.specs.Answer.{root_pattern}
use Rattle.lengths.specs.Asked.{difference_of, asked}
use Rattle.lengths.specs.Plain.{magnitude_pattern, zero_pattern, plain_root}
use Rattle.lengths.specs.Finite.{OfForm}
use Rattle.lengths.specs.LengthOf.{length_of}
use Rattle.lengths.specs.Right.{AnswersCall, RightLengths}
use Rattle.lengths.proofs.PlainCases.{IsValue, Leg, leg_values, reads_of_form}
use Rattle.lengths.proofs.FarLengths.{length_below}
use Rattle.lengths.proofs.Sorted.{Sided, reading_sided}
use Rattle.lengths.proofs.RightAsked.{RightAsked, asked_answers, asked_counts, same_pattern}
use Rattle.lengths.proofs.RightSums.{none_of_two, leg_chosen_root, written_root, zero_root, right_two, right_three}

module _ {P : Type 0} (encoding : Encoding P) (law : Lawful encoding) (x y : Reading) (X : OfForm encoding.form x) (Y : OfForm encoding.form y) where
  abbrev u : ℕ
  u = magnitude x

  abbrev v : ℕ
  v = magnitude y

  -- a far leg moves the root by less than half a unit
  far_leg : IsValue encoding.form x → is_far u v ≡ true → v ≤ u → magnitude_pattern encoding x ≡ root_pattern encoding (difference_of_squares x y)
  far_leg a f o =
      let k = a.k in
      let e = a.e in
      let q : magnitude x ≡ units k e = ap magnitude a.is in
      let h : v * 2 ^ 27 < u = ltb-true (v * 2 ^ 27) u f in
      let n = u * u - v * v in
      let s : n + v * v ≡ units k e * units k e = let l : v * v ≤ u * u = mul-le-mul o o in omega (arith, ap (λ (z : ℕ). z * z) q) in
      ap (magnitude_pattern encoding) a.is
      ∙ written_root encoding law n k e a.value (length_below encoding.form law.in_range k e a.value n (v * v) s (omega (arith, mul-lt _ _ _ _ h h, ap (λ (z : ℕ). z * z) q)))

  plain_leg_right : Leg encoding x y → (p : P) → plain_root encoding (difference_of x y) ≡ Some p → p ≡ root_pattern encoding (difference_of_squares x y)
  plain_leg_right l p e = go (eqb u v) (is_far u v) refl refl e
    where
      go : (a b : Bool) → eqb u v ≡ a → is_far u v ≡ b → cond a (Some (zero_pattern encoding)) (cond b (Some (magnitude_pattern encoding x)) None) ≡ Some p → p ≡ root_pattern encoding (difference_of_squares x y)
      go true b z f e =
          let q : u ≡ v = eqb-true u v z in
          let n : u * u - v * v ≡ 0 = omega (arith, ap (λ (z : ℕ). z * z) q) in
          let r : p ≡ zero_pattern encoding = cc in r ∙ zero_root encoding law ∙ ap (root_pattern encoding) (sym n)
      go false true z f e = let q : p ≡ magnitude_pattern encoding x = cc in q ∙ far_leg l.hypotenuse f l.not_shorter
      go false false z f e = cc

  headed_leg : (a : Sided encoding.form u) (b : Sided encoding.form v) → v < u → is_far u v ≡ false → NearHead (head_difference u v) (squares_apart u v) u
  headed_leg a b o f =
      let p = a.units_are in
      let q = b.units_are in
      let k = leg_near_head a.side b.side (omega (arith, p, q, o)) ((λ i. is_far (p i) (q i)) ∙ f) in
      subst (λ (s : ℕ). NearHead (head_difference s v) (squares_apart s v) s) p (subst (λ (t : ℕ). NearHead (head_difference (side_units a.side) t) (squares_apart (side_units a.side) t) (side_units a.side)) q k)

  pub right_leg : RightAsked encoding (difference_of x y)
  right_leg = record {
    root = λ m e. leg_chosen_root (is_nan x || is_nan y) (is_infinite y) (is_infinite x) (ltb u v) (difference_of_squares x y) m e;
    plain_right = λ p e s. plain_leg_right (leg_values encoding x y X Y s) p e;
    headed = λ e s.
        let l = leg_values encoding x y X Y s in
        let b = none_of_two (zero_pattern encoding) (magnitude_pattern encoding x) (eqb u v) (is_far u v) e in
        let d : u ≡ v → ⊥ = eqb-false u v b.0 in
        let o : v < u = lt_unless v u (λ (h : u ≤ v). d (omega (arith, l.not_shorter))) in
        headed_leg (reading_sided encoding.form law.in_range x l.hypotenuse) (reading_sided encoding.form law.in_range y l.other) o b.1;
  }

calls_right : {P : Type 0} (encoding : Encoding P) → Lawful encoding → (call : Call P) → RightAsked encoding (asked encoding call)
calls_right encoding law (Hypot x y) = right_two encoding law (encoding.reading x) (encoding.reading y) (reads_of_form encoding law x _ refl) (reads_of_form encoding law y _ refl)
calls_right encoding law (Cathetus x y) = right_leg encoding law (encoding.reading x) (encoding.reading y) (reads_of_form encoding law x _ refl) (reads_of_form encoding law y _ refl)
calls_right encoding law (ThreeSides x y z) =
    right_three encoding law (encoding.reading x) (encoding.reading y) (encoding.reading z) (reads_of_form encoding law x _ refl) (reads_of_form encoding law y _ refl) (reads_of_form encoding law z _ refl)

pub pattern_answers : {P : Type 0} (encoding : Encoding P) (source : Source) → Lawful encoding → (call : Call P) → AnswersCall encoding call (length_of encoding source call).pattern
unfolding length_of
pattern_answers encoding source law call = asked_answers encoding law (asked encoding call) (calls_right encoding law call) source

pub right_lengths : {P : Type 0} (encoding : Encoding P) (source : Source) → Lawful encoding → Sound source → RightLengths encoding source
unfolding length_of
right_lengths encoding source law sound = record {
  answers = pattern_answers encoding source law;
  counts = λ call. (asked_counts encoding law (asked encoding call) (calls_right encoding law call) source sound).0;
  bounded = λ call. (asked_counts encoding law (asked encoding call) (calls_right encoding law call) source sound).1;
  independent = λ other call. same_pattern encoding source other call;
}
