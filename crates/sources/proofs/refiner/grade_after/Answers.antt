use Rattle.std.proofs.Common.{ℕ, ◌≤◌, sym, ◌∙◌, subst}
use Rattle.sources.specs.Refined.{refined_grade}
use Rattle.sources.specs.Refining.{repeated_none, repeated_more, grade_most}
use Rattle.sources.proofs.refiner.grade_after.Goals as goal

pub loop-step-init : goal.loop-step-init
loop-step-init c = (repeated_none refined_grade c.args.grade, c.requires)

pub loop-step-preserved : goal.loop-step-preserved
loop-step-preserved c =
    let l = c.loop-step in
    let e = c.step_grade-after.ensures in
    (e ∙ repeated_more l._step refined_grade c.args.grade l.after l.invariant.0, subst (λ (x : ℕ). x ≤ 53) (sym e) (grade_most l.after l.invariant.1))
