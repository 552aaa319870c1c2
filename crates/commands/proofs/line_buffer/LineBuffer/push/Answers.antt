use Rattle.std.proofs.Common.{◌≡◌, length, rules}
use Rattle.commands.proofs.Cut.{stored, dropped}
use Rattle.commands.proofs.line_buffer.LineBuffer.push.Goals as goal

pub returns-then-self-lt-CAPACITY : goal.returns-then-self-lt-CAPACITY
returns-then-self-lt-CAPACITY c =
    let full : length c.args.self.now.bytes ≡ 81 = search rules in
    stored c.args.self.now.bytes c.args.self.now.len c.args.byte full c.if-self-lt-CAPACITY.true

pub returns-else-self-lt-CAPACITY : goal.returns-else-self-lt-CAPACITY
returns-else-self-lt-CAPACITY c =
    let full : length c.args.self.now.bytes ≡ 81 = search rules in
    dropped c.args.self.now.bytes c.args.self.now.len c.args.byte full c.if-self-lt-CAPACITY.false c.args.self.now.within
