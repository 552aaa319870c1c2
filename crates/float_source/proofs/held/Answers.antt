use Rattle.sources.specs.Source.{Word}
use Rattle.float_source.specs.WordParts.{first_moderate, second_moderate, in_order, held_by}
use Rattle.float_source.proofs.held.Goals as goal

pub from_exact_add-requires : goal.from_exact_add-requires
from_exact_add-requires c =
    let w = c.args.word in
    let word : Word w = record { least = c.requires; most = c.ranges.word.fits } in
    let u = c.upper_half in
    let l = c.lower_half in
    record {
      first = first_moderate w word u.result l.result u.ensures l.ensures;
      second = second_moderate w word u.result l.result u.ensures l.ensures;
      ordered = in_order w word u.result l.result u.ensures l.ensures;
    }

pub returns : goal.returns
returns c =
    let word : Word c.args.word = record { least = c.requires; most = c.ranges.word.fits } in
    held_by c.args.word word c.upper_half.result c.lower_half.result c.upper_half.ensures c.lower_half.ensures _ _ c.from_exact_add.ensures
