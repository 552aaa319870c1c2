use Rattle.commands.proofs.Pieces.{pieces_give_lines, pieces_do_not_matter}
use Rattle.commands.proofs.pending.pieces_give_lines.Goals as goal

pub returns : goal.returns
returns c = record { lines = pieces_give_lines; pieces = pieces_do_not_matter }
