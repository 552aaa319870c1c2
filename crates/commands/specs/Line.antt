-- What a line asks for: its length is looked at first, then its letters, then its layout, then its digits.
use Rattle.std.specs.Prelude.{◌≡◌, ℕ, cond, List, length, take, drop, Ok, Err, Option, Result, nat_lt, slice_index}
use Rattle.std.specs.Option.{ok_or}
use Rattle.std.specs.Result.{result_map_both}
use Rattle.commands.specs.Letters.{operation_of, form_of}
use Rattle.commands.specs.Fields.{request_of}
use Rattle.commands.specs.declared.command.Operation.{Operation}
use Rattle.commands.specs.declared.command.FormName.{FormName}
use Rattle.commands.specs.declared.command.FormName.TheVariants.{Binary64, Binary32, Thousandths}
use Rattle.commands.specs.declared.command.Command.{Command}
use Rattle.commands.specs.declared.command.Command.TheVariants.{Binary64 as InBinary64, Binary32 as InBinary32, Thousandths as InThousandths}
use Rattle.commands.specs.declared.fault.TextFault.{TextFault}
use Rattle.commands.specs.declared.fault.TextFault.TheVariants.{LongLine, Letter}

-- what the letter at a place names; a line that ends sooner lacks it at its end
abbrev pub letter_at : {A : Type 0} → (ℕ → Option A) → ℕ → List ℕ → Result A TextFault
letter_at named place line =
    cond (nat_lt place (length line)) (ok_or (named (slice_index line place)) (Letter place)) (Err (Letter (length line)))

-- the command in each form: 16 digits to a field of binary64, 8 otherwise
abbrev pub command_in : FormName → Operation → ℕ → List ℕ → Result Command TextFault
command_in Binary64 operation space rest = result_map_both InBinary64 (λ fault. fault) (request_of (λ number. number) 16 operation space rest)
command_in Binary32 operation space rest = result_map_both InBinary32 (λ fault. fault) (request_of (λ number. number) 8 operation space rest)
command_in Thousandths operation space rest = result_map_both InThousandths (λ fault. fault) (request_of (λ number. number) 8 operation space rest)

-- the command behind two letters, the operation's looked at first
abbrev pub lettered : Result Operation TextFault → Result FormName TextFault → ℕ → List ℕ → Result Command TextFault
lettered (Err fault) form space rest = Err fault
lettered (Ok operation) (Err fault) space rest = Err fault
lettered (Ok operation) (Ok form) space rest = command_in form operation space rest

-- what a line asks for, or why it is refused
abbrev pub command_of : List ℕ → Result Command TextFault
command_of line =
    cond (nat_lt 80 (length line)) (Err LongLine)
    (lettered (letter_at operation_of 0 line) (letter_at form_of 2 line) (slice_index line 1) (drop 3 line))

-- the first 81 bytes of a line decide what it asks for
abbrev pub FirstBytesDecide : Type 0
FirstBytesDecide = (line : List ℕ) → command_of (take 81 line) ≡ command_of line
