use Rattle.std.proofs.Common.{sym, ◌∙◌}
use Rattle.lengths.proofs.AskedLengths.{leg_plain}
use Rattle.lengths.proofs.length.other_leg.Goals as goal

pub returns-in_err-break_on-2 : goal.returns-in_err-break_on-2
returns-in_err-break_on-2 g c =
    let s = c.finite-hypotenuse in
    rw c.from_residual-in_err-break_on-2.ensures
    (leg_plain g.F.NumberForm.encoding g.met.F.NumberForm.lawful _ _ s.result.side c.finite.result.side c.args.x.of_form c.args.y.of_form s.result.value s.ensures c.finite.ensures (sym c.special_leg.ensures ∙ c.in_ok-break_on.ensures)
    ∙ sym c.plain_leg.ensures ∙ c.in_err-break_on-2.ensures)
