-- The length of a call: the pattern that answers, and the count of the walk.
use Rattle.std.specs.Prelude.{ℕ, ◌+◌, ◌-◌, ◌*◌, ◌/◌, ◌^◌, Some, None, Option, Float}
use Rattle.std.specs.Float.Ieee.{size}
use Rattle.exact.specs.Root.{isqrt}
use Rattle.forms.specs.Encoding.{Encoding}
use Rattle.sources.specs.Source.{Source}
use Rattle.head.specs.Head.{head_word, head_places}
use Rattle.walk.specs.Walk.{distance}
use Rattle.lengths.specs.declared.call.Call.{Call}
use Rattle.lengths.specs.declared.call.Measured.{Measured}
use Rattle.triangle.specs.Answer.{root_pattern}
use Rattle.lengths.specs.Asked.{Asked, asked, radicand, largest, head_of}
use Rattle.lengths.specs.Plain.{plain}

-- the floor root of the radicand n in the scale of a head with so many places: the largest whole number whose square is at
-- most n' * 4 ^ (22 + places), where n' is n over the square of the power of two that the sides are scaled by
unfoldable pub floor_root_at : ℕ → ℕ → ℕ → ℕ
floor_root_at n largest places = isqrt (n * 4 ^ (22 + places) / 4 ^ (size largest - 1))

-- how far the source's proposal for the head of h lies from the floor root
unfoldable pub walk_count : Source → Float → ℕ → ℕ → ℕ
walk_count source h n largest = distance (source.proposal (head_word h)) (floor_root_at n largest (head_places h))

-- the length of the root of n, with its count
abbrev pub root_length : {P : Type 0} → Encoding P → Source → Float → ℕ → ℕ → Measured P
root_length encoding source h n largest = record { pattern = root_pattern encoding n; count = walk_count source h n largest }

-- a plain case is answered at once, with the count zero
abbrev pub unless_plain : {P : Type 0} → Option P → Measured P → Measured P
unless_plain (Some pattern) root = record { pattern = pattern; count = 0 }
unless_plain None root = root

abbrev pub length_asked : {P : Type 0} → Encoding P → Source → Asked → Measured P
length_asked encoding source a = unless_plain (plain encoding a) (root_length encoding source (head_of a) (radicand a) (largest a))

-- the pattern and the count of a call
unfoldable pub length_of : {P : Type 0} → Encoding P → Source → Call P → Measured P
length_of encoding source call = length_asked encoding source (asked encoding call)
