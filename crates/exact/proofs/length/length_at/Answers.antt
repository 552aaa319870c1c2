use Rattle.std.proofs.Common.{◌≡◌, ◌+◌, ◌-◌, ◌*◌, ◌/◌, ◌%◌, ◌^◌, ◌<◌, ◌≤◌, ◌⊎◌, refl, inl, inr, arith}
use lib.Count.{count_leading_zeros}
use Rattle.exact.proofs.Words.{carried_length, kept_length}
use Rattle.exact.proofs.length.length_at.Goals as goal
use Rattle.exact.proofs.length.length_at.Goals.{else-precision-lt64-via-then-precision-lt64+else-significand-precision, else-precision-lt64-via-else-precision-lt64}

pub returns-then-significand-precision : goal.returns-then-significand-precision
returns-then-significand-precision c =
    let ceil : c.div_ceil.result ≡ (64 - count_leading_zeros 64 c.args.n + 1) / 2 = omega (arith, c.div_ceil.ensures) in
    carried_length c.args.precision c.args.n c.div_ceil.result c.saturating_sub-exponent.result c.rounded-significand.result c.ranges.n.fits ceil c.saturating_sub-exponent.ensures c.rounded-significand.ensures
    (c.args.precision - 1) c.requires c.if-precision-lt64.true c.if-significand-precision.true refl

pub returns-else-precision-lt64 : goal.returns-else-precision-lt64
returns-else-precision-lt64 c =
    let p = c.args.precision in
    let k = c.rounded-significand.result in
    let ceil : c.div_ceil.result ≡ (64 - count_leading_zeros 64 c.args.n + 1) / 2 = omega (arith, c.div_ceil.ensures) in
    let way : ((p < 64) × (k ≡ 1 * 2 ^ p % 2 ^ 64 → ⊥)) ⊎ (64 ≤ p) = elim c.else-precision-lt64.branch [
      | else-precision-lt64-via-then-precision-lt64+else-significand-precision w ↦ inl (w.if-precision-lt64.true, w.if-significand-precision.false)
      | else-precision-lt64-via-else-precision-lt64 w ↦ inr w.if-precision-lt64.false
    ] in
    rw (c.new.ensures.significand, c.new.ensures.exponent)
    (kept_length p c.args.n c.div_ceil.result c.saturating_sub-exponent.result k c.ranges.n.fits ceil c.saturating_sub-exponent.ensures c.rounded-significand.ensures
    c.rounded-significand.type_inv way)
