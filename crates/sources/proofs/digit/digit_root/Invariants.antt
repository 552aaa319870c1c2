use Rattle.sources.specs.Digits.{AfterTurns}
use Rattle.sources.proofs.digit.digit_root.Given as goal

abbrev pub invariant-loop-turn : goal.invariant-loop-turn
invariant-loop-turn l = AfterTurns l.word l.root l.residual l.left l._turn
