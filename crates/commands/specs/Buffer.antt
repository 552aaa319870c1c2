-- A line in a fixed number of bytes.
use Rattle.std.specs.Prelude.{ℕ, List, take}
use Rattle.commands.specs.declared.line_buffer.LineBuffer.{LineBuffer}

-- the bytes that a buffer holds
abbrev pub kept : LineBuffer → List ℕ
kept buffer = take buffer.len buffer.bytes
