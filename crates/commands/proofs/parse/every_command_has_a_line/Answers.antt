use Rattle.commands.proofs.SpeltLines.{every_command_has_a_line}
use Rattle.commands.proofs.parse.every_command_has_a_line.Goals as goal

pub returns : goal.returns
returns c = every_command_has_a_line
