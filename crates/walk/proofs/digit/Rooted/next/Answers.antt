use Rattle.std.proofs.Common.{◌≡◌, ◌+◌, ◌*◌, arith}
use Rattle.exact.proofs.Roots.{is_isqrt}
use Rattle.walk.specs.Digit.{with_bits}
use Rattle.walk.proofs.digit.Rooted.next.Goals as goal

pub returns : goal.returns
returns c =
    let r = c.last_digit.result in
    let n = with_bits c.args.self.root c.args.self.residual c.args.bits in
    let e : r.root * r.root + r.residual ≡ n = omega (arith, c.last_digit.ensures) in
    record { root = is_isqrt n r.root (record { low = omega (arith, e); high = omega (arith, e, r.floor) }); residual = e }
