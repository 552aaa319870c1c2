use Rattle.std.proofs.Common.{◌-◌, arith, pow_pos}
use Rattle.walk.proofs.Locations.{half_is, half_most, floor_is, location_is}
use Rattle.walk.proofs.location.located.Goals as goal

pub split-requires : goal.split-requires
split-requires c =
    let e = half_is c.min.result (c.args.dropped - 1) c.min.ensures in
    record { least = omega (arith, e, pow_pos c.min.result); most = omega (arith, e, half_most c.min.result (c.args.dropped - 1) c.min.ensures) }

pub returns : goal.returns
returns c =
    let is = floor_is c.args.root c.args.dropped c.min.result c.args.exact c.split.result c.requires.root c.requires.dropped c.min.ensures c.split.ensures in
    let at = location_is c.args.root c.args.dropped c.min.result c.args.exact c.split.result c.requires.root c.requires.dropped c.min.ensures c.split.ensures in
    record { floor = is; located = at }
