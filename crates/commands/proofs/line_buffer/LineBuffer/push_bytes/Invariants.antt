use Rattle.std.proofs.Common.{◌≡◌, ◌++◌, take}
use Rattle.commands.specs.Buffer.{kept}
use Rattle.commands.proofs.line_buffer.LineBuffer.push_bytes.Given as goal

abbrev pub invariant-loop-byte : goal.invariant-loop-byte
invariant-loop-byte l = kept l.self ≡ take 81 (kept l.initial.self ++ take l.byte-index l.bytes)
