use Rattle.head.specs.Squares.{two_radicand}
use Rattle.head.specs.Head.{Heads}
use Rattle.head.proofs.Radicands.{two_ordinary, two_sides_sum, two_near, two_far}
use Rattle.head.proofs.Places.{sum_places}
use Rattle.head.proofs.of_sides.HeadSides.two_head.Goals as goal

pub head_word-requires : goal.head_word-requires
head_word-requires c =
    let s = c.args.self in
    let n = s.other in
    rw c.two_sides.ensures (two_ordinary s.largest n.significand n.below s.full n.full n.close)

pub returns : goal.returns
returns c =
    let s = c.args.self in
    let n = s.other in
    let head : Heads (two_radicand s.largest n.significand n.below) c.head_word.result.word c.head_word.result.places = rw c.two_sides.ensures at c.head_word.ensures in
    record {
      heads = head;
      near = two_near s.largest n.significand n.below s.full n.full n.close _ _ head;
      far = two_far s.largest n.significand n.below s.full n.full n.close _ _ head;
      places = sum_places _ _ _ _ _ (two_sides_sum s.largest n.significand n.below s.full n.full n.close) head;
    }
