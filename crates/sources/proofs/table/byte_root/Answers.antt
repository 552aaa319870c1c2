use Rattle.std.proofs.Common.{◌-◌, ap, ◌∙◌, arith, rules}
use Rattle.sources.specs.Table.{byte_root}
use Rattle.sources.proofs.Tables.{entry_is}
use Rattle.sources.proofs.table.byte_root.Goals as goal

pub returns : goal.returns
returns c = entry_is 64 _ c.byte_roots.ensures.rule (c.args.byte - 64) (search rules) ∙ ap byte_root (omega arith)
