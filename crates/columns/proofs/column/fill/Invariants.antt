use Rattle.std.proofs.Common.{◌≡◌}
use Rattle.columns.proofs.Entries.{rest}
use Rattle.columns.proofs.ColumnLogs.{Logged}
use Rattle.columns.proofs.column.fill.Given as goal

abbrev pub invariant-loop-i : goal.invariant-loop-i
invariant-loop-i g l =
    let encoding = g.F.NumberForm.encoding in
    let meaning = g.R.RootSource.meaning in
    (rest encoding meaning l.operation l.i l.solver l.xs l.ys l.lengths l.counts ≡ rest encoding meaning l.operation 0 l.initial.solver l.xs l.ys l.initial.lengths l.initial.counts)
    × Logged encoding meaning l.operation l.initial.solver l.solver l.solver l.i l.xs l.ys l.lengths l.counts
