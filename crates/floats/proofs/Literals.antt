-- A written float is moderate where a test says so.
use Rattle.std.proofs.Common.{◌&&◌, T, leb, nat_abs, leb→le}
use lib.Ieee.{Float}
use lib.Ieee.Fits.{and_l, and_r}
use lib.Ieee.Scale.{finite}
use Rattle.floats.specs.Units.{most, units, Moderate}

pub moderate : (x : Float) → T (finite x && leb (nat_abs (units x)) most) → Moderate x
moderate x t = record { number = and_l (finite x) (leb (nat_abs (units x)) most) t; size = leb→le (nat_abs (units x)) most (and_r (finite x) (leb (nat_abs (units x)) most) t) }
