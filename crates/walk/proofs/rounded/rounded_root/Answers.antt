use Rattle.std.proofs.Common.{◌^◌, div-le_self, arith}
use Rattle.walk.proofs.RoundedRoots.{longer, drops_one, drops_are, rounds_to}
use Rattle.walk.proofs.rounded.rounded_root.Goals as goal

pub located-requires : goal.located-requires
located-requires c =
    let w = c.walk-walked in
    let t = c.next-longer.result in
    let l = longer c.args.radicand c.args.proposal w.result.floor t c.requires.proposal c.requires.bits w.ensures.root w.ensures.residual c.next-longer.ensures.residual in
    record {
      root = omega (arith, l.most);
      dropped = drops_one c.args.radicand t.root t.residual l c.args.precision c.args.least c.bits_to_drop-dropped.result c.requires.precision.1 c.bits_to_drop-dropped.ensures;
    }

pub nearest-nearest-requires : goal.nearest-nearest-requires
nearest-nearest-requires c =
    let w = c.walk-walked in
    let t = c.next-longer.result in
    let l = longer c.args.radicand c.args.proposal w.result.floor t c.requires.proposal c.requires.bits w.ensures.root w.ensures.residual c.next-longer.ensures.residual in
    omega (arith, l.most, c.located.ensures.floor, div-le_self t.root (2 ^ c.bits_to_drop-dropped.result))

pub returns : goal.returns
returns c =
    let w = c.walk-walked in
    let t = c.next-longer.result in
    let l = longer c.args.radicand c.args.proposal w.result.floor t c.requires.proposal c.requires.bits w.ensures.root w.ensures.residual c.next-longer.ensures.residual in
    record {
      count = omega (arith, w.ensures);
      dropped = drops_are c.args.radicand t.root t.residual l c.args.precision c.args.least c.bits_to_drop-dropped.result c.requires.precision.1 c.bits_to_drop-dropped.ensures;
      length =
          rounds_to c.args.radicand t.root t.residual c.args.precision c.args.least c.bits_to_drop-dropped.result c.nearest-nearest.result c.with_carry-significand.result.0 c.is_exact-exact.result c.with_carry-significand.result.1 c.located.result
          l c.requires.precision.0 c.requires.precision.1 c.bits_to_drop-dropped.ensures c.is_exact-exact.ensures c.located.ensures.located c.nearest-nearest.ensures c.with_carry-significand.ensures.significand c.with_carry-significand.ensures.carried;
    }
