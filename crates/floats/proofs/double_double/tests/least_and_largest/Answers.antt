use lib.Ieee.{of_bits, neg}
use Rattle.floats.specs.Units.{unit, most, units}
use Rattle.floats.proofs.Literals.{moderate}
use Rattle.floats.proofs.double_double.tests.least_and_largest.Goals as goal

pub from_full_exact_add-zero-requires : goal.from_full_exact_add-zero-requires
unfolding of_bits neg units unit most
from_full_exact_add-zero-requires g c = record { first = moderate _ tt; second = moderate _ tt }

pub from_full_exact_add-below-requires : goal.from_full_exact_add-below-requires
unfolding of_bits neg units unit most
from_full_exact_add-below-requires g c = record { first = moderate _ tt; second = moderate _ tt }

pub from_full_exact_add-subnormal-requires : goal.from_full_exact_add-subnormal-requires
unfolding of_bits neg units unit most
from_full_exact_add-subnormal-requires g c = record { first = moderate _ tt; second = moderate _ tt }

pub from_full_exact_add-wide-requires : goal.from_full_exact_add-wide-requires
unfolding of_bits neg units unit most
from_full_exact_add-wide-requires g c = record { first = moderate _ tt; second = moderate _ tt }

pub from_full_exact_add-doubled-requires : goal.from_full_exact_add-doubled-requires
unfolding of_bits neg units unit most
from_full_exact_add-doubled-requires g c = record { first = moderate _ tt; second = moderate _ tt }
