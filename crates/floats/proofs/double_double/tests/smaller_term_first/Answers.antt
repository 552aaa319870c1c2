use lib.Ieee.{of_bits, neg}
use Rattle.floats.specs.Units.{unit, most, units}
use Rattle.floats.proofs.Literals.{moderate}
use Rattle.floats.proofs.double_double.tests.smaller_term_first.Goals as goal

pub from_full_exact_add-above-requires : goal.from_full_exact_add-above-requires
unfolding of_bits neg units unit most
from_full_exact_add-above-requires g c = record { first = moderate _ tt; second = moderate _ tt }

pub from_full_exact_add-under-requires : goal.from_full_exact_add-under-requires
unfolding of_bits neg units unit most
from_full_exact_add-under-requires g c = record { first = moderate _ tt; second = moderate _ tt }

pub from_full_exact_add-tie-requires : goal.from_full_exact_add-tie-requires
unfolding of_bits neg units unit most
from_full_exact_add-tie-requires g c = record { first = moderate _ tt; second = moderate _ tt }

pub from_full_exact_add-inexact-requires : goal.from_full_exact_add-inexact-requires
unfolding of_bits neg units unit most
from_full_exact_add-inexact-requires g c = record { first = moderate _ tt; second = moderate _ tt }
