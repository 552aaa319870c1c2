-- The fields of a line: what stands behind its two letters, each field after one space.
use Rattle.std.specs.Prelude.{ℕ, zero, suc, ◌+◌, ◌*◌, Bool, true, cond, ◌&&◌, List, length, take, drop, Ok, Err, Result, ◌==◌, slice_index}
use Rattle.lengths.specs.declared.call.Call.TheVariants.{Hypot as HypotCall, Cathetus as CathetusCall, ThreeSides as ThreeSidesCall}
use Rattle.sheet.specs.Hex.{hex_number}
use Rattle.sheet.specs.declared.hex.NotADigit.{NotADigit}
use Rattle.commands.specs.Letters.{field_count}
use Rattle.commands.specs.declared.command.Operation.{Operation}
use Rattle.commands.specs.declared.command.Operation.TheVariants.{Hypot, Cathetus, ThreeSides, NewScan}
use Rattle.solver.specs.declared.log.Request.{Request}
use Rattle.solver.specs.declared.log.Request.TheVariants.{Length, NewScan as NewScanRequest}
use Rattle.commands.specs.declared.fault.TextFault.{TextFault}
use Rattle.commands.specs.declared.fault.TextFault.TheVariants.{Layout, Digit}

-- a space stands before each of so many fields of so many digits
unfoldable pub spaced : ℕ → ℕ → List ℕ → Bool
spaced digits zero rest = true
spaced digits (suc before) rest = spaced digits before rest && slice_index rest (before * (digits + 1)) == 32

-- the shape of so many fields of so many digits, by length and separators alone
abbrev pub laid_out : ℕ → ℕ → List ℕ → Bool
laid_out digits count rest = length rest == count * (digits + 1) && spaced digits count rest

-- what a field means, given what its number means as a pattern
abbrev pub as_pattern : {P : Type 0} → (ℕ → P) → Result ℕ NotADigit → Result P TextFault
as_pattern pattern (Ok number) = Ok (pattern number)
as_pattern pattern (Err other) = Err (Digit other.place)

-- the pattern that field i spells, counted from 0; places count from the line's start
abbrev pub field_of : {P : Type 0} → (ℕ → P) → ℕ → List ℕ → ℕ → Result P TextFault
field_of pattern digits rest i = as_pattern pattern (hex_number (4 + i * (digits + 1)) (take digits (drop (1 + i * (digits + 1)) rest)))

-- two fields, the first faulty one first
abbrev pub both : {P R : Type 0} → (P → P → R) → Result P TextFault → Result P TextFault → Result R TextFault
both made (Err fault) y = Err fault
both made (Ok x) (Err fault) = Err fault
both made (Ok x) (Ok y) = Ok (made x y)

-- three fields, the first faulty one first
abbrev pub three : {P R : Type 0} → (P → P → P → R) → Result P TextFault → Result P TextFault → Result P TextFault → Result R TextFault
three made (Err fault) y z = Err fault
three made (Ok x) (Err fault) z = Err fault
three made (Ok x) (Ok y) (Err fault) = Err fault
three made (Ok x) (Ok y) (Ok z) = Ok (made x y z)

-- what an operation asks for with its fields; a cathetus has the hypotenuse first
abbrev pub asked_of : {P : Type 0} → Operation → (ℕ → Result P TextFault) → Result (Request P) TextFault
asked_of Hypot field = both (λ x y. Length (HypotCall x y)) (field 0) (field 1)
asked_of Cathetus field = both (λ hypotenuse leg. Length (CathetusCall hypotenuse leg)) (field 0) (field 1)
asked_of ThreeSides field = three (λ x y z. Length (ThreeSidesCall x y z)) (field 0) (field 1) (field 2)
asked_of NewScan field = Ok NewScanRequest

-- the request behind the letters, from the byte between them and the rest of the line: the layout is looked at before any digit
abbrev pub request_of : {P : Type 0} → (ℕ → P) → ℕ → Operation → ℕ → List ℕ → Result (Request P) TextFault
request_of pattern digits operation space rest =
    cond (space == 32 && laid_out digits (field_count operation) rest)
    (asked_of operation (field_of pattern digits rest))
    (Err (Layout (3 + length rest)))
