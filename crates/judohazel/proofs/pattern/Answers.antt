use mathlib.Core.Path.{sym, ap, ◌∙◌, subst}
use Rattle.sources.specs.Source.{exact_source}
use Rattle.lengths.specs.Right.{AnswersCall}
use Rattle.lengths.proofs.RightAsked.{same_pattern}
use Rattle.lengths.proofs.RightLengths.{pattern_answers}
use Rattle.judohazel.proofs.pattern.Goals as goal

pub returns : goal.returns
returns g c =
    let encoding = g.F.NumberForm.encoding in
    let value = ap (λ m. m.pattern) c.length_of.ensures.value ∙ same_pattern encoding _ exact_source c.args.call in
    record { value = value; nearest = subst (AnswersCall encoding c.args.call) (sym value) (pattern_answers encoding exact_source g.met.F.NumberForm.lawful c.args.call) }
