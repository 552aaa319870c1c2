-- No count is above the reserve of a call.
use Rattle.std.proofs.Common.{◌≡◌, ◌≤◌}
use Rattle.forms.specs.Encoding.{Encoding, Lawful}
use Rattle.sources.specs.Source.{Source, Sound}
use Rattle.lengths.specs.declared.call.Call.{Call}
use Rattle.lengths.specs.declared.call.Measured.{Measured}
use Rattle.lengths.specs.LengthOf.{length_of}
use Rattle.lengths.proofs.RightLengths.{right_lengths}
use Rattle.solver.specs.Sealing.{reserve}

pub bounded_count : {P : Type 0} (encoding : Encoding P) (source : Source) → Lawful encoding → Sound source
    → (call : Call P) (measured : Measured P) → measured ≡ length_of encoding source call → measured.count ≤ reserve source
bounded_count encoding source lawful sound call measured e = rw e ((right_lengths encoding source lawful sound).bounded call)
