-- The lines of an input.
use Rattle.std.specs.Prelude.{◌≡◌, ℕ, cond, List, [], ◌∷◌, ◌++◌, ◌==◌}

-- a byte at the front of the first line
abbrev pub put_first : ℕ → List (List ℕ) → List (List ℕ)
put_first byte [] = (byte ∷ []) ∷ []
put_first byte (line ∷ lines) = (byte ∷ line) ∷ lines

-- the lines of a whole input: each ends at a byte 10 or at the input's end, and no line follows a final byte 10
unfoldable pub lines_of : List ℕ → List (List ℕ)
lines_of [] = []
lines_of (byte ∷ bytes) = cond (byte == 10) ([] ∷ lines_of bytes) (put_first byte (lines_of bytes))

-- where a reader of an input stands: the lines that have ended, and the bytes since the last byte 10
pub record Reader : Type 0 where
  pub ended : List (List ℕ)
  pub begun : List ℕ

-- before any byte
abbrev pub at_start : Reader
at_start = record { ended = []; begun = [] }

-- behind one more byte
abbrev pub behind : Reader → ℕ → Reader
behind reader byte =
    cond (byte == 10)
    (record { ended = reader.ended ++ reader.begun ∷ []; begun = [] })
    (record { ended = reader.ended; begun = reader.begun ++ byte ∷ [] })

-- behind one more piece of the input
unfoldable pub behind_piece : Reader → List ℕ → Reader
behind_piece reader [] = reader
behind_piece reader (byte ∷ bytes) = behind_piece (behind reader byte) bytes

-- behind pieces, one after another
unfoldable pub behind_pieces : Reader → List (List ℕ) → Reader
behind_pieces reader [] = reader
behind_pieces reader (piece ∷ pieces) = behind_pieces (behind_piece reader piece) pieces

-- a line that has begun ends with the input
abbrev pub last_line : List ℕ → List (List ℕ)
last_line [] = []
last_line (byte ∷ bytes) = (byte ∷ bytes) ∷ []

-- the lines at the input's end
abbrev pub all_lines : Reader → List (List ℕ)
all_lines reader = reader.ended ++ last_line reader.begun

-- the pieces of an input, put together
unfoldable pub whole : List (List ℕ) → List ℕ
whole [] = []
whole (piece ∷ pieces) = piece ++ whole pieces

-- a reader has seen the lines of the input, however that is cut into pieces
abbrev pub PiecesGiveLines : Type 0
PiecesGiveLines = (pieces : List (List ℕ)) → all_lines (behind_pieces at_start pieces) ≡ lines_of (whole pieces)

-- where a reader stands, and so which lines have ended, depends on the bytes alone
abbrev pub PiecesDoNotMatter : Type 0
PiecesDoNotMatter = (reader : Reader) (pieces : List (List ℕ)) → behind_pieces reader pieces ≡ behind_piece reader (whole pieces)
