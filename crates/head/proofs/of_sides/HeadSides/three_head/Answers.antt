use Rattle.head.specs.Squares.{three_radicand}
use Rattle.head.specs.Head.{Heads}
use Rattle.head.proofs.Radicands.{three_ordinary, three_sides_sum, three_near}
use Rattle.head.proofs.Places.{sum_places}
use Rattle.head.proofs.of_sides.HeadSides.three_head.Goals as goal

pub head_word-requires : goal.head_word-requires
head_word-requires c =
    let s = c.args.self in
    let n = s.other in
    let k = c.args.third in
    rw c.three_sides.ensures (three_ordinary s.largest n.significand n.below k.significand k.below s.full n.full n.close k.full k.close)

pub returns : goal.returns
returns c =
    let s = c.args.self in
    let n = s.other in
    let k = c.args.third in
    let head : Heads (three_radicand s.largest n.significand n.below k.significand k.below) c.head_word.result.word c.head_word.result.places = rw c.three_sides.ensures at c.head_word.ensures in
    record {
      heads = head;
      near = three_near s.largest n.significand n.below k.significand k.below s.full n.full n.close k.full k.close _ _ head;
      places = sum_places _ _ _ _ _ (three_sides_sum s.largest n.significand n.below k.significand k.below s.full n.full n.close k.full k.close) head;
    }
