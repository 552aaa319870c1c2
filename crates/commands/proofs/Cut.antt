-- What comes behind the first bytes of a line makes no difference to them, so bytes can be pushed onto the first ones alone.
use Rattle.std.proofs.Common.{◌≡◌, ℕ, zero, suc, ◌+◌, ◌<◌, ◌≤◌, List, [], ◌∷◌, ◌++◌, length, take, set, sym, refl, ap, ◌∙◌, arith, length-append, length-take}
use Rattle.std.proofs.lemmas.List.{take_more_set, take_all, take-append-le, append_assoc}

-- the first bytes of a text are those of its first bytes, with more behind them
pub take_onto : (n : ℕ) (xs ys : List ℕ) → take n (take n xs ++ ys) ≡ take n (xs ++ ys)
take_onto zero xs ys = refl
take_onto (suc n) [] ys = refl
take_onto (suc n) (x ∷ xs) ys = ap (λ (r : List ℕ). x ∷ r) (take_onto n xs ys)

-- a buffer that keeps the first bytes of a text, and then of the text with more behind it
pub pushed_onto : (xs ys : List ℕ) {kept after : List ℕ} → kept ≡ take 81 xs → after ≡ take 81 (kept ++ ys) → after ≡ take 81 (xs ++ ys)
pushed_onto xs ys was now = now ∙ ap (λ (k : List ℕ). take 81 (k ++ ys)) was ∙ take_onto 81 xs ys

-- what a buffer keeps is short
pub kept_whole : (bytes : List ℕ) (len : ℕ) → len ≤ 81 → take len bytes ≡ take 81 (take len bytes)
kept_whole bytes len within = sym (take_all 81 (take len bytes) (simp length-take (omega arith)))

module _ (bytes : List ℕ) (len byte : ℕ) (full : length bytes ≡ 81) where
  -- a byte is stored where there is room
  pub stored : len < 81 → take (len + 1) (set bytes len byte) ≡ take 81 (take len bytes ++ byte ∷ [])
  stored room =
      let lt : len < length bytes = omega arith in
      take_more_set bytes len byte lt ∙ sym (take_all 81 (take len bytes ++ byte ∷ []) (simp (length-append, length-take) (omega arith)))

  -- and dropped where there is none
  pub dropped : 81 ≤ len → len ≤ 81 → take len bytes ≡ take 81 (take len bytes ++ byte ∷ [])
  dropped none within =
      sym (
      take-append-le 81 (take len bytes) (byte ∷ []) (simp length-take (omega arith))
      ∙ sym (kept_whole bytes len within)
      )

-- two pushes in a row
pub pushed_more : (xs ys zs : List ℕ) {kept after : List ℕ} → kept ≡ take 81 (xs ++ ys) → after ≡ take 81 (kept ++ zs) → after ≡ take 81 (xs ++ (ys ++ zs))
pushed_more xs ys zs was now = pushed_onto (xs ++ ys) zs was now ∙ ap (take 81) (append_assoc xs ys zs)
