use Rattle.std.proofs.Common.{◌∙◌}
use Rattle.lengths.specs.Asked.{asked}
use Rattle.lengths.specs.LengthOf.{length_of}
use Rattle.lengths.proofs.AskedLengths.{length_plain, length_posed}
use Rattle.lengths.proofs.length.length_of.Goals as goal

pub returns-in-Continue : goal.returns-in-Continue
unfolding length_of
returns-in-Continue g c =
    let encoding = g.F.NumberForm.encoding in
    let p = c.in-Continue.ensures in
    record { value = c.root_length.ensures _ _ _ p.1 ∙ length_posed encoding (asked encoding c.args.call) (g.R.RootSource.meaning c.args.source.now) p.0 }

pub returns-in-Break : goal.returns-in-Break
unfolding length_of
returns-in-Break g c = record { value = length_plain g.F.NumberForm.encoding (asked g.F.NumberForm.encoding c.args.call) (g.R.RootSource.meaning c.args.source.now) c.in-Break.pattern c.in-Break.ensures }
