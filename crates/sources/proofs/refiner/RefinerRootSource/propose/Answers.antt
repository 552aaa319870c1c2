use Rattle.sources.proofs.Proposals.{proposal_fits}
use Rattle.sources.proofs.refiner.RefinerRootSource.propose.Goals as goal

pub guess_after-requires : goal.guess_after-requires
guess_after-requires g c =
    let below = c.args.self.now.below in
    let h = proposal_fits (g.S.RootSource.meaning below) (g.met.S.RootSource.sound below) c.args.word c.in_ok-proposal.proposal c.ranges.word.fits c.in_ok-proposal.ensures in
    record { word = h.0; least = h.1; most = h.2 }
