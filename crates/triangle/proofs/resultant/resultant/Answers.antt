use Rattle.std.proofs.Common.{◌≡◌, [], ◌∷◌, None, sym, ap, ◌∙◌, subst, arith}
use Rattle.std.proofs.lemmas.Nat.{mul-lt}
use Rattle.forms.specs.Thousandths.{thousandths, read_thousandths}
use Rattle.triangle.specs.Outcome.{hypot_outcome}
use Rattle.triangle.specs.Answer.{special_pattern, hypot_of, answer, Answers}
use Rattle.triangle.proofs.Resultants.{two_sides}
use Rattle.triangle.proofs.resultant.resultant.Goals as goal

pub overflow_add-a : goal.overflow_add-a
overflow_add-a c =
    let a = c.whole_magnitude-a.ensures.bound in
    let b = c.whole_magnitude-b.ensures.bound in
    omega (arith, mul-lt _ _ _ _ a a, mul-lt _ _ _ _ b b)

pub returns : goal.returns
returns c =
    let none : special_pattern thousandths (hypot_of thousandths (c.args.x ∷ c.args.y ∷ [])) ≡ None =
    sym (c.in_default.ensures ∙ (λ i. special_pattern thousandths (hypot_outcome (c.read.ensures i ∷ c.read-2.ensures i ∷ [])))) in
    let outcome = two_sides thousandths (read_thousandths c.args.x) (read_thousandths c.args.y) _ _ none c.whole_magnitude-a.ensures.value c.whole_magnitude-b.ensures.value in
    record {
      value = c.root_pattern.ensures.value ∙ ap (answer thousandths) (sym outcome);
      nearest = subst (λ o. Answers thousandths o c.root_pattern.result) (sym outcome) c.root_pattern.ensures.nearest;
    }
