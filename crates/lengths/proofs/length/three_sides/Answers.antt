use Rattle.std.proofs.Common.{◌≡◌, [], ◌∷◌, sym, ◌∙◌}
use Rattle.sides.specs.Order.{descending}
use Rattle.sides.specs.Listed.{ordered_units}
use Rattle.lengths.specs.Asked.{sum_of, magnitudes}
use Rattle.lengths.specs.Plain.{plain}
use Rattle.lengths.proofs.AskedLengths.{one_value, three_plain, in_order}
use Rattle.lengths.proofs.length.three_sides.Goals.{After-descending-sides, After-plain_sum}
use Rattle.lengths.proofs.length.three_sides.Goals as goal

sorted : (g : _) (c : After-descending-sides g) → ordered_units c.descending-sides.result ≡ descending (magnitudes (c.args.x.reading ∷ c.args.y.reading ∷ c.args.z.reading ∷ []))
sorted g c = c.descending-sides.ensures.sorted ∙ (λ i. descending (c.finite.ensures i ∷ c.finite-2.ensures i ∷ c.finite-3.ensures i ∷ []))

by_longest : (g : _) (c : After-plain_sum g) → (s : ordered_units c.descending-sides.result ≡ descending (magnitudes (c.args.x.reading ∷ c.args.y.reading ∷ c.args.z.reading ∷ [])))
    → plain g.F.NumberForm.encoding (sum_of (c.args.x.reading ∷ c.args.y.reading ∷ c.args.z.reading ∷ [])) ≡ c.plain_sum.result
by_longest g c s =
    let encoding = g.F.NumberForm.encoding in
    let o = c.descending-sides in
    let side = one_value encoding.form o.result.first.magnitude _ _ _ o.ensures.first c.finite.result.value c.finite-2.result.value c.finite-3.result.value in
    three_plain encoding g.met.F.NumberForm.lawful _ _ _ o.result c.args.x.of_form c.args.y.of_form c.args.z.of_form side s (sym c.special_sum.ensures ∙ c.in_ok-break_on.ensures) ∙ sym c.plain_sum.ensures

pub returns-in_err-break_on-2 : goal.returns-in_err-break_on-2
returns-in_err-break_on-2 g c =
    let at = goal.at.returns-in_err-break_on-2 g c in
    rw c.from_residual-in_err-break_on-2.ensures (by_longest g at.After-plain_sum (sorted g at.After-descending-sides) ∙ c.in_err-break_on-2.ensures)

pub returns : goal.returns
returns g c =
    let at = goal.at.returns g c in
    let s = sorted g at.After-descending-sides in
    (by_longest g at.After-plain_sum s ∙ c.in_ok-break_on-2.ensures, in_order (c.args.x.reading ∷ c.args.y.reading ∷ c.args.z.reading ∷ []) (ordered_units c.descending-sides.result) _ s c.pose_sum.ensures)
