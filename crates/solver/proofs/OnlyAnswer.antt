-- A pattern that answers a call is the only one: the outcome of the call has one answer in a lawful form.
use Rattle.std.proofs.Common.{◌≡◌, sym, ◌∙◌}
use Rattle.forms.specs.Encoding.{Encoding, Lawful}
use Rattle.lengths.specs.declared.call.Call.{Call}
use Rattle.lengths.specs.Asked.{asked, outcome}
use Rattle.lengths.specs.Right.{AnswersCall}
use Rattle.triangle.proofs.Answering.{one_answer}

pub only_answer : {P : Type 0} (encoding : Encoding P) → Lawful encoding → (call : Call P) (pattern other : P)
    → AnswersCall encoding call pattern → AnswersCall encoding call other → other ≡ pattern
only_answer encoding lawful call pattern other h k =
    let one = one_answer encoding lawful in
    one.only (outcome (asked encoding call)) other k ∙ sym (one.only (outcome (asked encoding call)) pattern h)
