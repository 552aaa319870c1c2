-- Which kind of reading it is.
use Rattle.std.specs.Prelude.{Bool, true, false, ◌||◌}
use Rattle.forms.specs.declared.reading.Reading.{Reading}
use Rattle.forms.specs.declared.reading.Reading.TheVariants.{Finite, Infinite, QuietNan, SignallingNan}

abbrev pub is_signalling : Reading → Bool
is_signalling (Finite negative k e) = false
is_signalling (Infinite negative) = false
is_signalling QuietNan = false
is_signalling SignallingNan = true

abbrev pub is_infinite : Reading → Bool
is_infinite (Finite negative k e) = false
is_infinite (Infinite negative) = true
is_infinite QuietNan = false
is_infinite SignallingNan = false

abbrev pub is_quiet : Reading → Bool
is_quiet (Finite negative k e) = false
is_quiet (Infinite negative) = false
is_quiet QuietNan = true
is_quiet SignallingNan = false

abbrev pub is_nan : Reading → Bool
is_nan reading = is_signalling reading || is_quiet reading
