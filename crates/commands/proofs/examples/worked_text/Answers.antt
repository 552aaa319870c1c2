use Rattle.std.proofs.Common.{refl}
use Rattle.std.specs.Fmt.{digits}
use Rattle.sheet.specs.Hex.{leading_digits, spelt_behind}
use Rattle.commands.specs.Hex.{hex_digits}
use Rattle.commands.specs.Fields.{spaced}
use Rattle.commands.specs.Input.{lines_of}
use Rattle.commands.proofs.examples.worked_text.Goals as goal

pub returns : goal.returns
unfolding leading_digits spelt_behind hex_digits spaced lines_of digits
returns c = record {
  lines = record {
    hypot = refl;
    cathetus = refl;
    capitals = refl;
    three_sides = refl;
    new_scan = refl;
    empty = refl;
    one_letter = refl;
    no_space = refl;
    operation = refl;
    form = refl;
    letters_exact = refl;
    between = refl;
    space_behind = refl;
    space_for_digit = refl;
  };
  answers = record { binary64 = refl; thousandths = refl; new_scan = refl; text = refl; solver = refl };
  inputs = record { none = refl; empty_line = refl; ended = refl; last = refl };
}
