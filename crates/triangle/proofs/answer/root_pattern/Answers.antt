use Rattle.std.proofs.Common.{◌≡◌, ℕ, max, sym, ap, subst, arith}
use Rattle.exact.specs.declared.form.Form.{Form}
use Rattle.exact.specs.Length.{Length}
use Rattle.triangle.specs.Answer.{root_pattern, AnswersRoot}
use Rattle.triangle.proofs.Answering.{writes, root_answers}
use Rattle.triangle.proofs.answer.root_pattern.Goals as goal

pub returns : goal.returns
returns g c =
    let encoding = g.F.NumberForm.encoding in
    let law = g.met.F.NumberForm.lawful in
    let root = c.length.result in
    let r = c.written_or_infinity.result in
    let bits : max c.form.result.precision 1 ≡ encoding.form.precision = omega (arith, ap (λ (f : Form). f.precision) c.form.ensures, law.in_range.precision_least) in
    let l = subst (λ (p : ℕ). Length p c.args.n root.significand root.exponent) bits c.length.ensures in
    let same : r ≡ root_pattern encoding c.args.n = writes encoding law c.args.n root.significand root.exponent l r c.written_or_infinity.ensures.value c.written_or_infinity.ensures.beyond in
    record { value = same; nearest = subst (AnswersRoot encoding c.args.n) (sym same) (root_answers encoding law c.args.n) }
