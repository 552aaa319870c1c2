-- The lines at a reader's place: those that have ended, and then those of the bytes to come, with the begun line put before the first of them.
use Rattle.std.proofs.Common.{◌≡◌, ℕ, true, false, cond, eqb, ◌≢◌, List, [], ◌∷◌, ◌++◌, sym, refl, ap, ◌∙◌, ne_eqb}
use Rattle.std.proofs.lemmas.List.{append-nil, append_assoc}
use Rattle.commands.specs.Input.{put_first, lines_of, Reader, at_start, behind, behind_piece, behind_pieces, last_line, all_lines, whole}

-- a byte other than 10 goes on with the begun line
pub begun_more : (reader : Reader) (byte : ℕ) → byte ≢ 10 → (behind reader byte).begun ≡ reader.begun ++ byte ∷ []
begun_more reader byte other = simp (ne_eqb byte 10 other)

put_before : List ℕ → List (List ℕ) → List (List ℕ)
put_before [] lines = lines
put_before (byte ∷ bytes) lines = put_first byte (put_before bytes lines)

put_before_line : (begun line : List ℕ) (lines : List (List ℕ)) → put_before begun (line ∷ lines) ≡ (begun ++ line) ∷ lines
unfolding put_before
put_before_line [] line lines = refl
put_before_line (byte ∷ bytes) line lines = ap (put_first byte) (put_before_line bytes line lines)

put_before_more : (begun more : List ℕ) (lines : List (List ℕ)) → put_before (begun ++ more) lines ≡ put_before begun (put_before more lines)
unfolding put_before
put_before_more [] more lines = refl
put_before_more (byte ∷ bytes) more lines = ap (put_first byte) (put_before_more bytes more lines)

last_is : (begun : List ℕ) → last_line begun ≡ put_before begun []
unfolding put_before
last_is [] = refl
last_is (byte ∷ []) = refl
last_is (byte ∷ next ∷ bytes) = ap (put_first byte) (last_is (next ∷ bytes))

lines_to_come : (reader : Reader) (bytes : List ℕ) → all_lines (behind_piece reader bytes) ≡ reader.ended ++ put_before reader.begun (lines_of bytes)
unfolding behind_piece lines_of put_before
lines_to_come reader [] = ap (λ lines. reader.ended ++ lines) (last_is reader.begun)
lines_to_come reader (byte ∷ bytes) =
    elim (eqb byte 10) as (λ b.
    all_lines (behind_piece (cond b (record { ended = reader.ended ++ reader.begun ∷ []; begun = [] }) (record { ended = reader.ended; begun = reader.begun ++ byte ∷ [] })) bytes)
    ≡ reader.ended ++ put_before reader.begun (cond b ([] ∷ lines_of bytes) (put_first byte (lines_of bytes)))) [
      | true ↦
          lines_to_come (record { ended = reader.ended ++ reader.begun ∷ []; begun = [] }) bytes
          ∙ append_assoc reader.ended (reader.begun ∷ []) (lines_of bytes)
          ∙ ap (λ lines. reader.ended ++ lines) (sym (put_before_line reader.begun [] (lines_of bytes) ∙ ap (λ line. line ∷ lines_of bytes) (append-nil reader.begun)))
      | false ↦
          lines_to_come (record { ended = reader.ended; begun = reader.begun ++ byte ∷ [] }) bytes
          ∙ ap (λ lines. reader.ended ++ lines) (put_before_more reader.begun (byte ∷ []) (lines_of bytes))
    ]

behind_both : (reader : Reader) (xs ys : List ℕ) → behind_piece reader (xs ++ ys) ≡ behind_piece (behind_piece reader xs) ys
unfolding behind_piece
behind_both reader [] ys = refl
behind_both reader (x ∷ xs) ys = behind_both (behind reader x) xs ys

pub pieces_do_not_matter : (reader : Reader) (pieces : List (List ℕ)) → behind_pieces reader pieces ≡ behind_piece reader (whole pieces)
unfolding behind_piece behind_pieces whole
pieces_do_not_matter reader [] = refl
pieces_do_not_matter reader (piece ∷ pieces) = pieces_do_not_matter (behind_piece reader piece) pieces ∙ sym (behind_both reader piece (whole pieces))

pub pieces_give_lines : (pieces : List (List ℕ)) → all_lines (behind_pieces at_start pieces) ≡ lines_of (whole pieces)
unfolding put_before
pieces_give_lines pieces = ap all_lines (pieces_do_not_matter at_start pieces) ∙ lines_to_come at_start (whole pieces)
