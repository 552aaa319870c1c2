-- A posed root stands for some radicand; and what is posed for something asked.
use Rattle.std.specs.Prelude.{◌≡◌, ℕ, Some, None, Float}
use Rattle.std.specs.ControlFlow.{MatchControlFlow}
use Rattle.std.specs.declared.ops.ControlFlow.{ControlFlow}
use Rattle.forms.specs.Encoding.{Encoding}
use Rattle.sides.specs.declared.posed.Posed.{Posed}
use Rattle.sides.specs.Poses.{Poses}
use Rattle.lengths.specs.Asked.{Asked, radicand, largest, head_of}
use Rattle.lengths.specs.Plain.{plain}

abbrev pub PosedRoot : Posed → Type 0
PosedRoot posed = (h : Float) × (n : ℕ) × (largest : ℕ) × Poses h n largest posed

-- a plain case breaks off with its pattern, and any other goes on with the root of the radicand asked for
abbrev pub PosedUnlessPlain : {P : Type 0} → Encoding P → Asked → ControlFlow P Posed → Type 0
PosedUnlessPlain encoding a step =
    MatchControlFlow step (λ posed. (plain encoding a ≡ None) × Poses (head_of a) (radicand a) (largest a) posed) (λ pattern. plain encoding a ≡ Some pattern)
