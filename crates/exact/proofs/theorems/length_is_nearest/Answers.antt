use Rattle.exact.proofs.Values.{length_is_nearest, nearest_unique, length_is_value, value_is_length}
use Rattle.exact.proofs.Tops.{length_at_top}
use Rattle.exact.proofs.theorems.length_is_nearest.Goals as goal

pub returns : goal.returns
returns c = record { nearest = length_is_nearest; only = nearest_unique; value = length_is_value; own = value_is_length; top = length_at_top }
