use Rattle.radicand.specs.Limbs.{Counts, Held}
use Rattle.radicand.proofs.Cuts.{quotient_below, scaled_down}
use Rattle.radicand.proofs.Truncations.{stands}
use Rattle.radicand.proofs.scale.scaled.Goals as goal

pub worded-requires : goal.worded-requires
unfolding Held
worded-requires c = quotient_below _ _ _ _ c.requires c.lower.ensures.bound

pub returns : goal.returns
unfolding Counts
returns c = λ x d t.
    let w = c.worded.ensures in
    stands c.worded.result _ _ _ _ w.floor w.bits w.cut (scaled_down _ x d c.args.scale.places _ c.args.scale.most (c.lower.ensures.over _ _ t))
