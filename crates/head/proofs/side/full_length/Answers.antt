use Rattle.std.proofs.Common.{sym, subst, arith}
use Rattle.head.specs.Side.{Full}
use Rattle.head.proofs.Lengths.{moved}
use Rattle.head.proofs.side.full_length.Goals as goal

pub overflow_sub-moved : goal.overflow_sub-moved
overflow_sub-moved c = omega (arith, (moved c.args.k c.requires.some c.requires.short).room)

pub invariant_of-result : goal.invariant_of-result
invariant_of-result c = let m = moved c.args.k c.requires.some c.requires.short in record { full = subst Full (sym m.whole) m.full }

pub returns-clause-value : goal.returns-clause-value
returns-clause-value c = (moved c.args.k c.requires.some c.requires.short).whole
