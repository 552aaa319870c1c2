use Rattle.lengths.proofs.Finites.{value_short}
use Rattle.lengths.proofs.finite.SideReading.finite.Goals as goal

pub new-requires-clause-short : goal.new-requires-clause-short
new-requires-clause-short g c = value_short g.F.NumberForm.encoding.form g.met.F.NumberForm.lawful.in_range _ _ c.magnitude.ensures.value
