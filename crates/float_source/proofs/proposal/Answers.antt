use Rattle.std.proofs.Common.{rules}
use Rattle.sources.specs.Source.{Word}
use Rattle.float_source.specs.Proposals.{can_be_cut, is_proposal}
use Rattle.float_source.proofs.proposal.Goals as goal

pub cut_root-requires : goal.cut_root-requires
cut_root-requires c =
    let word : Word c.args.word = record { least = c.requires; most = c.ranges.word.fits } in
    can_be_cut c.args.word word _ c.held-parts.result.hi c.held-parts.result.lo _ c.guess.ensures c.held-parts.ensures (search rules) c.improve-root.ensures

pub returns : goal.returns
returns c =
    let word : Word c.args.word = record { least = c.requires; most = c.ranges.word.fits } in
    is_proposal c.args.word word _ c.held-parts.result.hi c.held-parts.result.lo _ c.guess.ensures c.held-parts.ensures (search rules) c.improve-root.ensures c.cut_root.result c.cut_root.ensures
