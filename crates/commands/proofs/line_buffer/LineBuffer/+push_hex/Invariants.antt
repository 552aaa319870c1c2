use Rattle.commands.proofs.line_buffer.LineBuffer.+push_hex.Given as goal

abbrev pub decreases-push-hex : goal.decreases-push-hex
decreases-push-hex l = l.digits
