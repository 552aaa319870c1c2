use Rattle.head.proofs.Patterns.{is_number}
use Rattle.head.proofs.Heads.{pattern_field, read_head}
use Rattle.head.proofs.word.head_word.Goals as goal

pub float_to_bits-bits : goal.float_to_bits-bits
float_to_bits-bits c = is_number c.args.h c.requires

pub places_of-requires : goal.places_of-requires
places_of-requires c = pattern_field c.args.h (rw c.well_formed.0.1 tt) c.requires

pub returns : goal.returns
returns c = read_head c.args.h (rw c.well_formed.0.1 tt) c.requires _ _ c.word_of.ensures c.places_of.ensures
