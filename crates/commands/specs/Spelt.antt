-- The line of a command, in small digits.
use Rattle.std.specs.Prelude.{◌≡◌, ℕ, ◌^◌, ◌<◌, List, [], ◌∷◌, ◌++◌, Ok}
use Rattle.lengths.specs.declared.call.Call.TheVariants.{Hypot, Cathetus, ThreeSides}
use Rattle.commands.specs.Hex.{hex_digits}
use Rattle.commands.specs.Line.{command_of}
use Rattle.commands.specs.declared.command.Command.{Command}
use Rattle.commands.specs.declared.command.Command.TheVariants.{Binary64, Binary32, Thousandths}
use Rattle.solver.specs.declared.log.Request.{Request}
use Rattle.solver.specs.declared.log.Request.TheVariants.{Length, NewScan}

-- the letter of the operation
abbrev pub letter_of : Request ℕ → ℕ
letter_of (Length (Hypot x y)) = 72
letter_of (Length (Cathetus hypotenuse leg)) = 76
letter_of (Length (ThreeSides x y z)) = 84
letter_of NewScan = 78

-- its patterns, in the order of their fields
abbrev pub patterns_of : Request ℕ → List ℕ
patterns_of (Length (Hypot x y)) = x ∷ y ∷ []
patterns_of (Length (Cathetus hypotenuse leg)) = hypotenuse ∷ leg ∷ []
patterns_of (Length (ThreeSides x y z)) = x ∷ y ∷ z ∷ []
patterns_of NewScan = []

-- fields of so many digits, each after one space
abbrev pub fields_text : ℕ → List ℕ → List ℕ
fields_text digits [] = []
fields_text digits (pattern ∷ patterns) = 32 ∷ (hex_digits digits pattern ++ fields_text digits patterns)

-- patterns of at most so many digits
abbrev pub OfWidth : ℕ → List ℕ → Type 0
OfWidth digits [] = Unit {0}
OfWidth digits (pattern ∷ patterns) = (pattern < 16 ^ digits) × OfWidth digits patterns

-- the line of a command: its two letters with a space between them, and its fields
abbrev pub line_of : Command → List ℕ
line_of (Binary64 request) = letter_of request ∷ 32 ∷ 100 ∷ fields_text 16 (patterns_of request)
line_of (Binary32 request) = letter_of request ∷ 32 ∷ 115 ∷ fields_text 8 (patterns_of request)
line_of (Thousandths request) = letter_of request ∷ 32 ∷ 109 ∷ fields_text 8 (patterns_of request)

-- a command's patterns have the width of its form
abbrev pub InWidth : Command → Type 0
InWidth (Binary64 request) = OfWidth 16 (patterns_of request)
InWidth (Binary32 request) = OfWidth 8 (patterns_of request)
InWidth (Thousandths request) = OfWidth 8 (patterns_of request)

-- every command has a line that asks for it
abbrev pub EveryCommandHasALine : Type 0
EveryCommandHasALine = (command : Command) → InWidth command → command_of (line_of command) ≡ Ok command
