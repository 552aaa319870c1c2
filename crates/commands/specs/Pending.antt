-- The line that has begun, in a fixed number of bytes.
use Rattle.std.specs.Prelude.{ℕ, List, [], ◌∷◌, Some, None, Option}
use Rattle.commands.specs.Buffer.{kept}
use Rattle.commands.specs.declared.line_buffer.LineBuffer.{LineBuffer}
use Rattle.commands.specs.declared.pending.Pending.{Pending}

-- the bytes kept of it
abbrev pub pending : Pending → List ℕ
pending p = kept p.line

-- the bytes of a line, where there is one
abbrev pub line_kept : Option LineBuffer → Option (List ℕ)
line_kept None = None
line_kept (Some line) = Some (kept line)

-- the last line of an input, where one has begun
abbrev pub last_kept : List ℕ → Option (List ℕ)
last_kept [] = None
last_kept (byte ∷ bytes) = Some (byte ∷ bytes)
