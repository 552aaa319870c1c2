-- What is printed of a call and of a length.
use Rattle.std.specs.Prelude.{ℕ, false, List, Option, Some, codes, decimal, option_map}
use Rattle.std.specs.Fmt.{digits, ◌++?◌}
use Rattle.lengths.specs.declared.call.Call.{Call}
use Rattle.lengths.specs.declared.call.Call.TheVariants.{Hypot, Cathetus, ThreeSides}
use Rattle.lengths.specs.declared.call.Measured.{Measured}

-- of patterns whose numbers are known
module _ {P : Type 0} (number : P → Option ℕ) where
  -- a pattern in hexadecimal digits
  abbrev pub pattern_text : P → Option (List ℕ)
  pattern_text pattern = option_map (digits 16 false) (number pattern)

  -- the call's name and its patterns
  abbrev pub call_text : Call P → Option (List ℕ)
  call_text (Hypot x y) = Some (codes "hypot ") ++? pattern_text x ++? Some (codes " ") ++? pattern_text y
  call_text (Cathetus hypotenuse leg) = Some (codes "cathetus ") ++? pattern_text hypotenuse ++? Some (codes " ") ++? pattern_text leg
  call_text (ThreeSides x y z) = Some (codes "three sides ") ++? pattern_text x ++? Some (codes " ") ++? pattern_text y ++? Some (codes " ") ++? pattern_text z

  -- the pattern and the count
  abbrev pub measured_text : Measured P → Option (List ℕ)
  measured_text measured = pattern_text measured.pattern ++? Some (codes ", count ") ++? Some (decimal measured.count)
