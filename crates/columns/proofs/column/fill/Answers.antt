use Rattle.std.proofs.Common.{sym, ◌∙◌, arith}
use Rattle.std.proofs.lemmas.Result.{err_from_is_err_and}
use Rattle.solver.specs.Serving.{call_result}
use Rattle.columns.specs.Column.{call_of, entries}
use Rattle.columns.proofs.Entries.{served_at, refused_at, stopped, rest_more, rest_stop, all_served}
use Rattle.columns.proofs.ColumnLogs.{logs_entry, logs_stop, logs_all}
use Rattle.columns.proofs.column.fill.Goals as goal

pub loop-i-preserved : goal.loop-i-preserved
loop-i-preserved g c =
    let encoding = g.F.NumberForm.encoding in
    let meaning = g.R.RootSource.meaning in
    let operation = c.args.operation in
    let x = c.index-xs-i.result in
    let y = c.index-ys-i.result in
    let did = rw c.call.ensures at c.measured_at.ensures in
    let measured = c.in_ok-measured.measured in
    let served = served_at c.loop-i.i (call_result encoding meaning c.loop-i.solver (call_of operation x y)) measured (sym c.in_ok-measured.was ∙ did.value) in
    let more =
    rest_more encoding meaning operation c.loop-i.i c.loop-i.solver c.measured_at.new.solver c.args.xs.now c.args.ys.now c.loop-i.lengths c.loop-i.counts x y
    did.after c.index-xs-i.is c.index-ys-i.is (omega arith) (omega arith) (omega arith) (omega arith) measured served in
    let logs =
    logs_entry encoding meaning operation c.args.solver.now c.loop-i.solver c.measured_at.new.solver c.loop-i.i c.args.xs.now c.args.ys.now c.loop-i.lengths c.loop-i.counts x y
    c.index-xs-i.is c.index-ys-i.is (omega arith) (omega arith) (omega arith) (omega arith) c.loop-i.invariant.1 did.log measured served in
    (sym more ∙ c.loop-i.invariant.0, logs)

pub returns-in_err-measured : goal.returns-in_err-measured
returns-in_err-measured g c =
    let encoding = g.F.NumberForm.encoding in
    let meaning = g.R.RootSource.meaning in
    let operation = c.args.operation in
    let x = c.index-xs-i.result in
    let y = c.index-ys-i.result in
    let did = rw c.call.ensures at c.measured_at.ensures in
    let refused = c.in_err-measured.field-0.0 in
    let why = refused_at c.loop-i.i (call_result encoding meaning c.loop-i.solver (call_of operation x y)) refused (sym c.in_err-measured.was ∙ did.value) in
    let p = err_from_is_err_and c.from_residual.result c.from_residual.ensures.1 in
    let is = stopped c.from_residual.result p.0 refused (record { place = c.loop-i.i; refusal = refused.refusal }) p.1 p.2 why.1 in
    let stop =
    rest_stop encoding meaning operation c.loop-i.i c.loop-i.solver c.measured_at.new.solver c.args.xs.now c.args.ys.now c.loop-i.lengths c.loop-i.counts x y
    did.after c.index-xs-i.is c.index-ys-i.is (omega arith) (omega arith) (omega arith) (omega arith) refused.refusal why.0 c.from_residual.result is (entries encoding meaning operation 0 c.args.solver.now c.args.xs.now c.args.ys.now c.args.lengths.now c.args.counts.now) c.loop-i.invariant.0 in
    let logs =
    logs_stop encoding meaning operation c.args.solver.now c.loop-i.solver c.measured_at.new.solver c.loop-i.i c.args.xs.now c.args.ys.now c.loop-i.lengths c.loop-i.counts x y
    c.index-xs-i.is c.index-ys-i.is (omega arith) (omega arith) (omega arith) (omega arith) c.loop-i.invariant.1 did.log refused.refusal why.0 c.from_residual.result is in
    record { value = stop; log = logs }

pub returns : goal.returns
returns g c =
    let encoding = g.F.NumberForm.encoding in
    let meaning = g.R.RootSource.meaning in
    let all = all_served encoding meaning c.args.operation c.loop-i.i c.loop-i.solver c.args.xs.now c.args.ys.now c.loop-i.lengths c.loop-i.counts (entries encoding meaning c.args.operation 0 c.args.solver.now c.args.xs.now c.args.ys.now c.args.lengths.now c.args.counts.now) (omega arith) (omega arith) (omega arith) c.loop-i.invariant.0 in
    let logs = logs_all encoding meaning c.args.operation c.args.solver.now c.loop-i.solver c.loop-i.solver c.loop-i.i c.args.xs.now c.args.ys.now c.loop-i.lengths c.loop-i.counts (omega arith) c.loop-i.invariant.1 in
    record { value = all; log = logs }
