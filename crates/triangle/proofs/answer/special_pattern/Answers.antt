use Rattle.std.proofs.Common.{◌≡◌, rules, tests, refl, ◌∙◌}
use Rattle.std.proofs.lemmas.Iterator.{YieldsList-from_slice}
use Rattle.forms.specs.Kinds.{is_signalling, is_infinite, is_quiet}
use Rattle.triangle.specs.Outcome.{some}
use Rattle.triangle.proofs.SomeSides.{any_some}
use Rattle.triangle.proofs.answer.special_pattern.Goals.{After-any, After-any-2, After-any-3}
use Rattle.triangle.proofs.answer.special_pattern.Goals as goal

signalling : (g : _) (c : After-any g) → some is_signalling c.args.sides.now ≡ c.any.result
signalling g c = any_some is_signalling _ _ _ c.any.ensures.ran (YieldsList-from_slice c.args.sides.now cc) (λ x b q k. search (rules, tests))

infinite : (g : _) (c : After-any-2 g) → some is_infinite c.args.sides.now ≡ c.any-2.result
infinite g c = any_some is_infinite _ _ _ c.any-2.ensures.ran (YieldsList-from_slice c.args.sides.now cc) (λ x b q k. search (rules, tests))

quiet : (g : _) (c : After-any-3 g) → some is_quiet c.args.sides.now ≡ c.any-3.result
quiet g c = any_some is_quiet _ _ _ c.any-3.ensures.ran (YieldsList-from_slice c.args.sides.now cc) (λ x b q k. search (rules, tests))

pub returns-then-any-2 : goal.returns-then-any-2
returns-then-any-2 g c =
    let at = goal.at.returns-then-any-2 g c in
    rw (signalling g at.After-any ∙ c.if-any.false, infinite g at.After-any-2 ∙ c.if-any-2.true) (search rules)

pub returns-then-any-3 : goal.returns-then-any-3
returns-then-any-3 g c =
    let at = goal.at.returns-then-any-3 g c in
    rw (signalling g at.After-any ∙ c.if-any.false, infinite g at.After-any-2 ∙ c.if-any-2.false, quiet g at.After-any-3 ∙ c.if-any-3.true) (search rules)

pub returns-else-any-3 : goal.returns-else-any-3
returns-else-any-3 g c =
    let at = goal.at.returns-else-any-3 g c in
    rw (signalling g at.After-any ∙ c.if-any.false, infinite g at.After-any-2 ∙ c.if-any-2.false, quiet g at.After-any-3 ∙ c.if-any-3.false) refl
