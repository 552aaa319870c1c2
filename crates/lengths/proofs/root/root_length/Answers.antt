use Rattle.std.proofs.Common.{◌≡◌, ℕ, ◌+◌, ◌-◌, ◌*◌, ◌^◌, ◌<◌, ◌≤◌, sym, refl, ap, ◌∙◌, subst, arith}
use lib.Ieee.{size}
use Rattle.exact.specs.declared.form.Form.{Form}
use Rattle.exact.specs.Length.{Length}
use Rattle.exact.specs.Root.{isqrt}
use Rattle.radicand.specs.Stands.{radicand_floor}
use Rattle.walk.specs.Walk.{distance, Walkable}
use Rattle.walk.specs.Rounded.{after_carry, Scaled}
use Rattle.sides.specs.declared.posed.Posed.{Posed}
use Rattle.triangle.specs.Answer.{root_pattern}
use Rattle.lengths.specs.LengthOf.{walk_count}
use Rattle.triangle.proofs.Answering.{writes}
use Rattle.lengths.proofs.RootLengths.{walkable, count_is, dropped_most, dropped_least, dropped_some, scaled_as}
use Rattle.lengths.proofs.root.root_length.Goals.{After-proposal_for-proposal, After-rounded_root-rounded}
use Rattle.lengths.proofs.root.root_length.Goals as goal

-- the walk starts from the source's proposal
start : (g : _) (c : After-proposal_for-proposal g) → Walkable c.args.posed.radicand c.proposal_for-proposal.result
start g c =
    let value = c.args.source.now in
    let (h, n, largest, poses) = c.requires.posed in
    subst (Walkable c.args.posed.radicand) (sym c.proposal_for-proposal.ensures) (walkable h n largest c.args.posed poses (g.R.RootSource.meaning value) (g.met.R.RootSource.sound value) c.requires.graded)

pub rounded_root-rounded-requires-clause-proposal : goal.rounded_root-rounded-requires-clause-proposal
rounded_root-rounded-requires-clause-proposal g c = start g (goal.at.rounded_root-rounded-requires-clause-proposal g c).After-proposal_for-proposal

-- how many bits are dropped
record Drops (p : Posed) (dropped : ℕ) : Type 0 where
  most : dropped ≤ 81
  enough : 24 + p.head.places ≤ p.bits + dropped
  some : 1 ≤ dropped

drops : (g : _) (c : After-rounded_root-rounded g) → Walkable c.args.posed.radicand c.proposal_for-proposal.result → Drops c.args.posed c.rounded_root-rounded.result.dropped
drops g c w =
    let p = c.args.posed in
    let poses = c.requires.posed.3 in
    let short : p.radicand.bits < 4 = poses.stands.bits_short in
    let least : c.saturating_sub-least.result ≡ 24 + p.head.places - p.bits = c.saturating_sub-least.ensures in
    let d = c.rounded_root-rounded.ensures.dropped in
    let precision : c.form.result.precision ≤ 53 = omega (arith, ap (λ (x : Form). x.precision) c.form.ensures, g.met.F.NumberForm.lawful.in_range.precision_most) in
    record {
      most = dropped_most p.radicand _ w short _ _ _ d (omega (arith, least, poses.places_most));
      enough = omega (arith, least, dropped_least p.radicand _ w short _ _ _ d);
      some = dropped_some p.radicand _ w short _ _ _ d precision;
    }

pub overflow_add-posed : goal.overflow_add-posed
overflow_add-posed g c = omega (arith, (drops g (goal.at.overflow_add-posed g c).After-rounded_root-rounded (start g (goal.at.overflow_add-posed g c).After-proposal_for-proposal)).most, c.requires.posed.3.few_bits)

pub carry-exponent-requires : goal.carry-exponent-requires
carry-exponent-requires g c = omega (arith, (drops g (goal.at.carry-exponent-requires g c).After-rounded_root-rounded (start g (goal.at.carry-exponent-requires g c).After-proposal_for-proposal)).most, c.requires.posed.3.few_bits)

pub returns : goal.returns
returns g c h n largest poses =
    let value = c.args.source.now in
    let source = g.R.RootSource.meaning value in
    let encoding = g.F.NumberForm.encoding in
    let law = g.met.F.NumberForm.lawful in
    let p = c.args.posed in
    let least = c.saturating_sub-least.result in
    let out = c.rounded_root-rounded.result in
    let dropped = out.dropped in
    let few = drops g (goal.at.returns g c).After-rounded_root-rounded (start g (goal.at.returns g c).After-proposal_for-proposal) in
    let e = p.bits + dropped - (24 + p.head.places) in
    let scaled : Scaled n e (n * 4 ^ (23 + p.head.places)) (4 ^ (size largest - 1)) dropped least =
    subst (Scaled n e (n * 4 ^ (23 + p.head.places)) (4 ^ (size largest - 1)) dropped) (sym c.saturating_sub-least.ensures)
    (scaled_as h n largest p poses dropped e few.enough refl (λ z. omega (arith, few.some, few.enough))) in
    let long : Length c.form.result.precision n out.significand (after_carry out.carried e) = c.rounded_root-rounded.ensures.length n e _ _ poses.stands scaled in
    let length : Length encoding.form.precision n out.significand c.carry-exponent.result =
    subst (Length encoding.form.precision n out.significand) (sym c.carry-exponent.ensures)
    (subst (λ (x : Form). Length x.precision n out.significand (after_carry out.carried e)) c.form.ensures long) in
    let pattern : c.written_or_infinity.result ≡ root_pattern encoding n =
    writes encoding law n out.significand c.carry-exponent.result length c.written_or_infinity.result c.written_or_infinity.ensures.value c.written_or_infinity.ensures.beyond in
    let count : out.count ≡ walk_count source h n largest =
    c.rounded_root-rounded.ensures.count ∙ ap (λ (x : ℕ). distance x (isqrt (radicand_floor p.radicand))) c.proposal_for-proposal.ensures
    ∙ count_is h n largest p poses source (g.met.R.RootSource.sound value) in
    λ i. record { pattern = pattern i; count = count i }
