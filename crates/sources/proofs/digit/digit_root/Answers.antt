use Rattle.std.proofs.Common.{arith}
use Rattle.sources.specs.Digits.{none_yet, digit_one, digit_zero, after_turns}
use Rattle.sources.proofs.digit.digit_root.Goals as goal
use Rattle.sources.proofs.digit.digit_root.Goals.{then-residual-root, else-residual-root}

pub loop-turn-init : goal.loop-turn-init
loop-turn-init c = after_turns c.args.word 0 0 c.args.word 0 (none_yet c.args.word c.ranges.word.fits)

pub overflow_mul-residual : goal.overflow_mul-residual
overflow_mul-residual c = omega (arith, c.loop-turn.invariant.room (omega arith))

pub overflow_add-residual : goal.overflow_add-residual
overflow_add-residual c = omega (arith, c.loop-turn.invariant.room (omega arith))

pub overflow_mul-root-in-loop-turn : goal.overflow_mul-root-in-loop-turn
overflow_mul-root-in-loop-turn c = omega (arith, c.loop-turn.invariant.room (omega arith))

pub overflow_mul-residual-then-residual-root : goal.overflow_mul-residual-then-residual-root
overflow_mul-residual-then-residual-root c = omega (arith, c.loop-turn.invariant.room (omega arith))

pub overflow_add-residual-then-residual-root : goal.overflow_add-residual-then-residual-root
overflow_add-residual-then-residual-root c = omega (arith, c.loop-turn.invariant.room (omega arith))

pub loop-turn-preserved : goal.loop-turn-preserved
loop-turn-preserved c =
    let l = c.loop-turn in
    after_turns c.args.word _ _ _ _ (elim c.if-residual-root.branch [
      | then-residual-root w ↦ digit_one c.args.word l.root l.residual l.left l._turn l.invariant.so_far _ _ w.if-residual-root.true w.root-is w.residual-is
      | else-residual-root w ↦ digit_zero c.args.word l.root l.residual l.left l._turn l.invariant.so_far _ _ w.if-residual-root.false w.root-is w.residual-is
    ])
