-- Lines of input.
use Rattle.std.specs.Prelude.{ℕ, ◌-◌, cond, ◌&&◌, List, length, take, ◌==◌, nat_lt, slice_index}

-- a line without the byte 10 at its end; every other byte stays
abbrev pub without_newline : List ℕ → List ℕ
without_newline line = cond (nat_lt 0 (length line) && slice_index line (length line - 1) == 10) (take (length line - 1) line) line
