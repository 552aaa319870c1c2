-- The bytes of an answer, and of a refusal.
use Rattle.std.specs.Prelude.{ℕ, List, [], ◌∷◌, ◌++◌, codes, decimal}
use Rattle.lengths.specs.declared.call.Measured.{Measured}
use Rattle.commands.specs.Fault.{fault_layer, fault_number, fault_place, layer_word}
use Rattle.commands.specs.Hex.{hex_digits}
use Rattle.commands.specs.declared.fault.Layer.{Layer}
use Rattle.commands.specs.declared.fault.TextFault.{TextFault}
use Rattle.commands.specs.declared.pattern.PatternBits.{PatternBits}
use Rattle.commands.specs.declared.pattern.PatternBits.TheVariants.{Bits64, Bits32}
use Rattle.commands.specs.declared.reply.Reply.{Reply}
use Rattle.commands.specs.declared.reply.Reply.TheVariants.{Length, NewScan}

-- a pattern at full width, in small hexadecimal digits
abbrev pub pattern_digits : PatternBits → List ℕ
pattern_digits (Bits64 number) = hex_digits 16 number
pattern_digits (Bits32 number) = hex_digits 8 number

-- an answer, all numbers but the pattern in decimal
abbrev pub reply_text : Reply → List ℕ
reply_text (Length pattern count) = codes "= " ++ pattern_digits pattern ++ codes " " ++ decimal count
reply_text NewScan = codes "= new"

-- the line of an answer, with the byte that ends it
abbrev pub reply_line : Reply → List ℕ
reply_line reply = reply_text reply ++ 10 ∷ []

-- the answer with a length, given how its form's patterns are written
abbrev pub length_reply : {P : Type 0} → (P → PatternBits) → Measured P → Reply
length_reply written measured = Length (written measured.pattern) measured.count

-- a refusal by its number and layer, with the place or number that it tells
abbrev pub refusal_text : ℕ → Layer → ℕ → List ℕ
refusal_text number layer place = codes "! " ++ decimal number ++ codes " " ++ layer_word layer ++ codes " " ++ decimal place

-- its line, with the byte that ends it
abbrev pub refusal_line : ℕ → Layer → ℕ → List ℕ
refusal_line number layer place = refusal_text number layer place ++ 10 ∷ []

-- the line that answers a line that is refused
abbrev pub fault_line : TextFault → List ℕ
fault_line fault = refusal_line (fault_number fault) (fault_layer fault) (fault_place fault)
