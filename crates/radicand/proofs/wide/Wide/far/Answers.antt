use Rattle.std.proofs.Common.{arith}
use Rattle.radicand.proofs.Cuts.{far_cut}
use Rattle.radicand.proofs.wide.Wide.far.Goals as goal

pub returns : goal.returns
returns c =
    far_cut _ c.args.places c.min.result c.min-2.result c.min-3.result _ _
    (omega (arith, c.args.self.limbs))
    (λ h. omega (arith, c.min.ensures, c.saturating_sub.ensures, c.min-2.ensures, c.saturating_sub-2.ensures, c.min-3.ensures))
    (λ h. omega (arith, c.min.ensures, c.saturating_sub.ensures, c.min-2.ensures, c.saturating_sub-2.ensures, c.min-3.ensures))
    (c.lower-3.ensures.over _ _ (c.lower-2.ensures.over _ _ c.lower.ensures))
