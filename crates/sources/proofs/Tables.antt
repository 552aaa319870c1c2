-- The rule of the table, from one test of the whole table.
use Rattle.std.proofs.Common.{◌≡◌, ℕ, zero, suc, ◌+◌, ◌*◌, ◌^◌, ◌<◌, Bool, true, ◌&&◌, List, [], ◌∷◌, length, get_or, subst, le_of_suc-le-suc, not-suc-le-zero, arith, ltb-true, leb-true}
use Rattle.exact.specs.Root.{FloorRoot}
use Rattle.exact.proofs.Roots.{is_isqrt}
use Rattle.sources.specs.Table.{byte_root, is_floor_root, are_byte_roots}

left_of : (a b : Bool) → (a && b) ≡ true → a ≡ true
left_of a b h = grind (arith)

right_of : (a b : Bool) → (a && b) ≡ true → b ≡ true
right_of a b h = grind (arith)

tested : (n x : ℕ) → is_floor_root n x ≡ true → FloorRoot n x
tested n x h = record { low = leb-true _ _ (left_of _ _ h); high = ltb-true _ _ (right_of _ _ h) }

-- each entry is the root of its byte
pub entry_is : (b : ℕ) (xs : List ℕ) → are_byte_roots b xs ≡ true → (k : ℕ) → k < length xs → get_or xs k 0 ≡ byte_root (b + k)
entry_is b [] t k h = absurd (not-suc-le-zero h)
entry_is b (x ∷ xs) t zero h = subst (λ (m : ℕ). x ≡ byte_root m) {x = b} (omega arith) (is_isqrt (b * 2 ^ 20) x (tested _ _ (left_of _ _ t)))
entry_is b (x ∷ xs) t (suc k) h =
    subst (λ (m : ℕ). get_or xs k 0 ≡ byte_root m) {x = b + 1 + k} (omega arith) (entry_is (b + 1) xs (right_of _ _ t) k (le_of_suc-le-suc h))
