use Rattle.commands.proofs.Replies.{told_length}
use Rattle.commands.proofs.reply.length_line.Goals as goal

pub returns : goal.returns
returns c =
    told_length c.args.pattern c.args.count c.ranges.count.fits
    c.new-line.ensures c.push_bytes.ensures c.push_pattern.ensures c.push.ensures c.push_decimal.ensures c.push-2.ensures
