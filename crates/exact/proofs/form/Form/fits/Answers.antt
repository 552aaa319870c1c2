use Rattle.std.proofs.Common.{◌-◌, arith, eq-eqb, le-leb, leb-true, rules}
use lib.Count.{count_leading_zeros}
use Rattle.exact.proofs.Bits.{bits_are, short_of, bits_most, full_of, bits_least}
use Rattle.exact.proofs.form.Form.fits.Goals as goal

pub returns-then-magnitude-eq0 : goal.returns-then-magnitude-eq0
returns-then-magnitude-eq0 c =
    let k = c.args.magnitude.significand in
    let bits = bits_are k (search rules) in
    (λ _. (short_of k _ bits c.args.self.precision c.if-bits-self.true, λ g. absurd (omega (arith, c.if-magnitude-eq0.true, g))), λ _. eq-eqb c.args.magnitude.exponent 0 c.if-magnitude-eq0.true)

pub returns-else-magnitude-eq0 : goal.returns-else-magnitude-eq0
returns-else-magnitude-eq0 c =
    let k = c.args.magnitude.significand in
    let p = c.args.self.precision in
    let bits = bits_are k (search rules) in (
      λ q. (short_of k _ bits p c.if-bits-self.true, λ _. full_of k (64 - count_leading_zeros 64 k) bits p (omega (arith, leb-true _ _ q, c.max.ensures))),
      λ v. le-leb _ _ (omega (arith, c.max.ensures, bits_least k (64 - count_leading_zeros 64 k) bits p (v.1 (omega (arith, c.if-magnitude-eq0.false))))),
    )

pub returns-else-bits-self : goal.returns-else-bits-self
returns-else-bits-self c =
    let k = c.args.magnitude.significand in
    let p = c.args.self.precision in
    let bits = bits_are k (search rules) in
    (λ q. absurd (omega (arith, leb-true _ _ q, c.if-bits-self.false)), λ v. le-leb _ _ (bits_most k (64 - count_leading_zeros 64 k) bits p v.0))
