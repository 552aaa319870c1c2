-- Every call's pattern answers for what it comes to, far sides included, and its count is the distance that it should be.
use Rattle.std.proofs.Common.{◌≡◌, ℕ, ◌+◌, ◌^◌, ◌≤◌, Some, None, Option, sym, refl, ap, ◌∙◌, subst, arith}
use Rattle.forms.specs.Encoding.{Encoding, Lawful}
use Rattle.sources.specs.Source.{Source, Sound}
use Rattle.sides.proofs.NearHeads.{NearHead}
use Rattle.lengths.specs.declared.call.Call.{Call}
use Rattle.triangle.specs.Outcome.{Outcome, not_a_number, infinite, root_of}
use Rattle.triangle.specs.Answer.{root_pattern, special_pattern, Answers}
use Rattle.lengths.specs.Asked.{Asked, asked, outcome, radicand, largest, head_of}
use Rattle.lengths.specs.Plain.{or_else, plain_root, plain}
use Rattle.lengths.specs.LengthOf.{root_length, unless_plain, length_of}
use Rattle.lengths.specs.Right.{CountedUnless}
use Rattle.triangle.proofs.Answering.{root_answers}
use Rattle.lengths.proofs.NearCounts.{count_bounded, count_walked}

-- what is wanted of something asked: a plain root is the right one, and any other has a near head
pub record RightAsked {P : Type 0} (encoding : Encoding P) (a : Asked) : Type 0 where
  pub root : (m : ℕ) → outcome a ≡ root_of m → m ≡ radicand a
  pub plain_right : (p : P) → plain_root encoding a ≡ Some p → special_pattern encoding (outcome a) ≡ None → p ≡ root_pattern encoding (radicand a)
  pub headed : plain_root encoding a ≡ None → special_pattern encoding (outcome a) ≡ None → NearHead (head_of a) (radicand a) (largest a)

module _ {P : Type 0} (encoding : Encoding P) (law : Lawful encoding) (a : Asked) (right : RightAsked encoding a) where
  by_outcome : (source : Source) (o : Outcome) (r : Option P) → outcome a ≡ o → plain_root encoding a ≡ r
      → Answers encoding o (unless_plain (or_else (special_pattern encoding o) r) (root_length encoding source (head_of a) (radicand a) (largest a))).pattern
  by_outcome source not_a_number r q e = refl
  by_outcome source infinite r q e = refl
  by_outcome source (root_of m) (Some p) q e =
      subst (Answers encoding (root_of m))
      (sym (right.plain_right p e (ap (special_pattern encoding) q) ∙ ap (root_pattern encoding) (sym (right.root m q))))
      (root_answers encoding law m)
  by_outcome source (root_of m) None q e = subst (λ (n : ℕ). Answers encoding (root_of m) (root_pattern encoding n)) (right.root m q) (root_answers encoding law m)

  pub asked_answers : (source : Source) → Answers encoding (outcome a) (unless_plain (plain encoding a) (root_length encoding source (head_of a) (radicand a) (largest a))).pattern
  asked_answers source = by_outcome source (outcome a) (plain_root encoding a) refl refl

  -- the count, by the plain cases
  module _ (source : Source) (sound : Sound source) where
    abbrev counted : Option P → ℕ
    counted o = (unless_plain o (root_length encoding source (head_of a) (radicand a) (largest a))).count

    by_plain : (s r : Option P) → special_pattern encoding (outcome a) ≡ s → plain_root encoding a ≡ r
        → CountedUnless (or_else s r) source a (counted (or_else s r)) × (counted (or_else s r) ≤ 2 ^ source.grade + 4)
    by_plain (Some p) r e f = (refl, omega arith)
    by_plain None (Some p) e f = (refl, omega arith)
    by_plain None None e f =
        let k = right.headed f e in
        (count_walked source a k, count_bounded source (head_of a) (radicand a) (largest a) k sound)

    pub asked_counts : CountedUnless (plain encoding a) source a (counted (plain encoding a)) × (counted (plain encoding a) ≤ 2 ^ source.grade + 4)
    asked_counts = by_plain (special_pattern encoding (outcome a)) (plain_root encoding a) refl refl

-- a pattern is the same with any source
module _ {P : Type 0} (encoding : Encoding P) (source other : Source) where
  same : (o : Option P) (a : Asked)
      → (unless_plain o (root_length encoding source (head_of a) (radicand a) (largest a))).pattern ≡ (unless_plain o (root_length encoding other (head_of a) (radicand a) (largest a))).pattern
  same (Some p) a = refl
  same None a = refl

  pub same_pattern : (call : Call P) → (length_of encoding source call).pattern ≡ (length_of encoding other call).pattern
  unfolding length_of
  same_pattern call = same (plain encoding (asked encoding call)) (asked encoding call)
