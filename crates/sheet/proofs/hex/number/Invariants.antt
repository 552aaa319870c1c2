use Rattle.sheet.proofs.Numbers.{SoFar}
use Rattle.sheet.proofs.hex.number.Given as goal

abbrev pub invariant-loop-i : goal.invariant-loop-i
invariant-loop-i l = SoFar l.field l.i l.value
