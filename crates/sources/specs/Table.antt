-- The table source: roots of the word's leading byte.
use Rattle.std.specs.Prelude.{ℕ, ◌+◌, ◌*◌, ◌/◌, ◌^◌, ◌≤◌, Bool, true, ◌&&◌, List, [], ◌∷◌, nat_le, nat_lt}
use Rattle.exact.specs.Root.{isqrt}
use Rattle.sources.specs.Source.{Source, Word, WordRoot}

-- the root of the leading byte b of a word, with 14 bits: the largest number whose square is at most b * 2 ^ 20
abbrev pub byte_root : ℕ → ℕ
byte_root b = isqrt (b * 2 ^ 20)

-- the source that proposes the root of the word's leading byte
abbrev pub table_source : Source
table_source = record { grade = 47; proposal = λ w. byte_root (w / 2 ^ 56) * 2 ^ 40 }

-- its proposals are never above the root, and at most 2 ^ 46 + 2 ^ 40 below it
abbrev pub TableReach : Type 0
TableReach = (w s : ℕ) → Word w → WordRoot w s → (table_source.proposal w ≤ s) × (s ≤ table_source.proposal w + (2 ^ 46 + 2 ^ 40))

-- x is the floor root of n, as a test
abbrev pub is_floor_root : ℕ → ℕ → Bool
is_floor_root n x = nat_le (x * x) n && nat_lt n ((x + 1) * (x + 1))

-- the entries are the roots of the bytes from b on, as a test
abbrev pub are_byte_roots : ℕ → List ℕ → Bool
are_byte_roots b [] = true
are_byte_roots b (x ∷ xs) = is_floor_root (b * 2 ^ 20) x && are_byte_roots (b + 1) xs
