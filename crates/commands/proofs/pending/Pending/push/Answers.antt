use Rattle.std.proofs.Common.{[], ◌∷◌, take, sym, ap, ◌∙◌}
use Rattle.commands.proofs.Cut.{pushed_onto}
use Rattle.commands.proofs.Pieces.{begun_more}
use Rattle.commands.proofs.pending.Pending.push.Goals as goal

pub returns-clause-begun : goal.returns-clause-begun
returns-clause-begun c = λ reader was. pushed_onto reader.begun (c.args.byte ∷ []) was c.push.ensures ∙ ap (take 81) (sym (begun_more reader c.args.byte c.if-byte-eq10.false))
