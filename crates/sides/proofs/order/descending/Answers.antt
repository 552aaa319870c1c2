use Rattle.std.proofs.Common.{rules}
use Rattle.std.proofs.lemmas.List.Sorted.{answers_always}
use Rattle.sides.specs.declared.side.Side.{Side}
use Rattle.sides.proofs.Descending.{Sorted, sorted_are, descends, first_is}
use Rattle.sides.proofs.order.descending.Goals as goal

pub invariant_of-result : goal.invariant_of-result
invariant_of-result c =
    let e = c.sort_unstable_by_key.ensures in
    let sorted : Sorted c.sort_unstable_by_key.new.self = e.sorted (λ (s : Side). record { 0 = (s.bits, s.significand) }) (answers_always _ _ _ (λ f a r g h. search rules)) in
    record { order = descends _ _ _ _ e.len sorted }

pub returns : goal.returns
returns c =
    let e = c.sort_unstable_by_key.ensures in
    let sorted : Sorted c.sort_unstable_by_key.new.self = e.sorted (λ (s : Side). record { 0 = (s.bits, s.significand) }) (answers_always _ _ _ (λ f a r g h. search rules)) in
    record {
      sorted = sorted_are c.args.a c.args.b c.args.c _ _ _ _ e.permutation sorted;
      first = first_is c.args.a c.args.b c.args.c _ _ e.permutation e.len;
    }
