use Rattle.head.specs.Squares.{leg_radicand}
use Rattle.head.specs.Head.{Heads}
use Rattle.head.proofs.Radicands.{leg_ordinary, leg_near}
use Rattle.head.proofs.Places.{leg_places, leg_places_least}
use Rattle.head.proofs.of_sides.HeadSides.leg_head.Goals as goal

pub head_word-requires : goal.head_word-requires
head_word-requires c =
    let s = c.args.self in
    let n = s.other in
    rw c.leg_sides.ensures (leg_ordinary s.largest n.significand n.below s.full n.full n.close c.requires)

pub returns : goal.returns
returns c =
    let s = c.args.self in
    let n = s.other in
    let head : Heads (leg_radicand s.largest n.significand n.below) c.head_word.result.word c.head_word.result.places = rw c.leg_sides.ensures at c.head_word.ensures in
    record {
      heads = head;
      near = leg_near s.largest n.significand n.below s.full n.full n.close c.requires _ _ head;
      places = leg_places s.largest n.significand n.below _ _ s.full n.full n.close c.requires head;
      least = leg_places_least s.largest n.significand n.below _ _ s.full n.full n.close c.requires head;
    }
