use Rattle.std.specs.Prelude.{codes}
use Rattle.std.specs.Fmt.{digits_output}
use Rattle.lengths.proofs.Printed.{two, three}
use Rattle.lengths.proofs.call.CallDisplay.fmt.Goals as goal

pub returns-in-Hypot-clause-writes : goal.returns-in-Hypot-clause-writes
returns-in-Hypot-clause-writes g c =
    let word = g.P.HasDigits.word in
    rw c.in-Hypot.is (two g.W.Write.write_str_gives c.args.f.now c.write.result c.write.new.self (codes "hypot ") (word c.in-Hypot.x) (word c.in-Hypot.y)
    (digits_output c.in_radix.result) (digits_output c.in_radix-in-Hypot.result) c.in_radix.ensures c.in_radix-in-Hypot.ensures c.write.ensures.writes)

pub returns-in-Cathetus-clause-writes : goal.returns-in-Cathetus-clause-writes
returns-in-Cathetus-clause-writes g c =
    let word = g.P.HasDigits.word in
    rw c.in-Cathetus.is (two g.W.Write.write_str_gives c.args.f.now c.write-in-Cathetus.result c.write-in-Cathetus.new.self (codes "cathetus ") (word c.in-Cathetus.hypotenuse)
    (word c.in-Cathetus.leg) (digits_output c.in_radix-in-Cathetus.result) (digits_output c.in_radix-in-Cathetus-2.result) c.in_radix-in-Cathetus.ensures
    c.in_radix-in-Cathetus-2.ensures c.write-in-Cathetus.ensures.writes)

pub returns-in-ThreeSides-clause-writes : goal.returns-in-ThreeSides-clause-writes
returns-in-ThreeSides-clause-writes g c =
    let word = g.P.HasDigits.word in
    rw c.in-ThreeSides.is (three g.W.Write.write_str_gives c.args.f.now c.write-in-ThreeSides.result c.write-in-ThreeSides.new.self (codes "three sides ") (word c.in-ThreeSides.x)
    (word c.in-ThreeSides.y) (word c.in-ThreeSides.z) (digits_output c.in_radix-in-ThreeSides.result) (digits_output c.in_radix-in-ThreeSides-2.result)
    (digits_output c.in_radix-in-ThreeSides-3.result) c.in_radix-in-ThreeSides.ensures c.in_radix-in-ThreeSides-2.ensures c.in_radix-in-ThreeSides-3.ensures
    c.write-in-ThreeSides.ensures.writes)
