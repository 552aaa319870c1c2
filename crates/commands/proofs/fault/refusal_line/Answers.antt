use Rattle.std.proofs.Common.{◌++◌, take, ap, ◌∙◌}
use Rattle.commands.specs.Buffer.{kept}
use Rattle.commands.proofs.Replies.{told_refusal}
use Rattle.commands.proofs.fault.refusal_line.Goals as goal

pub returns : goal.returns
returns c =
    told_refusal c.args.number c.args.layer c.args.place c.ranges.number.fits c.ranges.place.fits
    c.new-line.ensures c.push_bytes.ensures c.push_decimal.ensures c.push.ensures
    (c.push_bytes-2.ensures ∙ ap (λ word. take 81 (kept c.push.new.self ++ word)) c.word.ensures) c.push-2.ensures c.push_decimal-2.ensures c.push-3.ensures
