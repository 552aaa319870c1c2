use Rattle.commands.specs.Buffer.{kept}
use Rattle.commands.proofs.Cut.{kept_whole}
use Rattle.commands.proofs.Spelling.{hex_more, hex_none}
use Rattle.commands.proofs.line_buffer.LineBuffer.+push_hex.Goals as goal

pub returns-then-digits-gt0 : goal.returns-then-digits-gt0
returns-then-digits-gt0 t c = hex_more (kept c.args.self.now) c.args.digits c.args.number c.digit_byte.result c.if-digits-gt0.true c.digit_byte.ensures c.push_hex.ensures c.push.ensures

pub returns-else-digits-gt0 : goal.returns-else-digits-gt0
returns-else-digits-gt0 t c =
    hex_none (kept c.args.self.now) c.args.digits c.args.number c.if-digits-gt0.false (kept_whole c.args.self.now.bytes c.args.self.now.len c.args.self.now.within)
