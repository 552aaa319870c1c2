use Rattle.std.proofs.Common.{lit≤}
use lib.Ieee.{of_bits, neg}
use Rattle.floats.specs.Units.{unit, most, units}
use Rattle.floats.proofs.Literals.{moderate}
use Rattle.floats.proofs.double_double.tests.larger_term_first.Goals as goal

pub from_exact_add-above-requires : goal.from_exact_add-above-requires
unfolding of_bits neg units unit most
from_exact_add-above-requires g c = record { first = moderate _ tt; second = moderate _ tt; ordered = lit≤ tt }

pub from_exact_add-under-requires : goal.from_exact_add-under-requires
unfolding of_bits neg units unit most
from_exact_add-under-requires g c = record { first = moderate _ tt; second = moderate _ tt; ordered = lit≤ tt }

pub from_exact_add-tie-requires : goal.from_exact_add-tie-requires
unfolding of_bits neg units unit most
from_exact_add-tie-requires g c = record { first = moderate _ tt; second = moderate _ tt; ordered = lit≤ tt }

pub from_exact_add-cancelled-requires : goal.from_exact_add-cancelled-requires
unfolding of_bits neg units unit most
from_exact_add-cancelled-requires g c = record { first = moderate _ tt; second = moderate _ tt; ordered = lit≤ tt }
