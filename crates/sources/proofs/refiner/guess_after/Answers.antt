use Rattle.std.proofs.Common.{◌∙◌, arith}
use Rattle.sources.specs.Refined.{refined_guess}
use Rattle.sources.specs.Refining.{repeated_none, repeated_more, guess_least}
use Rattle.sources.proofs.refiner.guess_after.Goals as goal

pub loop-step-init : goal.loop-step-init
loop-step-init c = (repeated_none (refined_guess c.args.word) c.args.proposal, c.requires.least, c.requires.most)

pub loop-step-preserved : goal.loop-step-preserved
loop-step-preserved c =
    let l = c.loop-step in
    let e = c.step-guess.ensures in
    let least = guess_least c.args.word l.guess (record { least = c.requires.word; most = c.ranges.word.fits }) l.invariant.1 in
    (e ∙ repeated_more l._step (refined_guess c.args.word) c.args.proposal l.guess l.invariant.0, omega (arith, e, least), omega (arith, e))
