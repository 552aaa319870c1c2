-- How far a table's proposal lies from the root: the leading byte's root is cut to a whole number, at most 2 ^ 40 below it,
-- and what stands behind the leading byte adds less than 2 ^ 100 to the radicand, which moves a root of 54 bits by at most 2 ^ 46.
use Rattle.std.specs.Prelude.{ℕ, ◌+◌, ◌*◌, ◌/◌, ◌^◌, ◌<◌, ◌≤◌}
use Rattle.std.proofs.Common.{arith}
use Rattle.exact.specs.Root.{FloorRoot}
use Rattle.exact.proofs.Roots.{isqrt_is}
use Rattle.exact.proofs.Squares.{lt_of_squares}
use Rattle.sources.specs.Source.{Word, WordRoot, Sound}
use Rattle.sources.specs.Table.{byte_root, table_source, TableReach}

module _ (w : ℕ) (word : Word w) where
  abbrev entry : ℕ
  entry = byte_root (w / 2 ^ 56)

  entry_is_root : FloorRoot (w / 2 ^ 56 * 2 ^ 20) entry
  entry_is_root = isqrt_is (w / 2 ^ 56 * 2 ^ 20)

  entry_least : 2 ^ 13 ≤ entry
  entry_least = let a : 2 ^ 13 < entry + 1 = lt_of_squares (2 ^ 13) (entry + 1) (omega (arith, entry_is_root.high, word.least)) in omega arith

  entry_most : entry < 2 ^ 14
  entry_most = lt_of_squares entry (2 ^ 14) (omega (arith, entry_is_root.low, word.most))

  under : (s : ℕ) → WordRoot w s → table_source.proposal w ≤ s
  under s root =
      let a : table_source.proposal w < s + 1 = lt_of_squares (entry * 2 ^ 40) (s + 1) (omega (arith, entry_is_root.low, root.high)) in
      omega arith

  reach : (s : ℕ) → WordRoot w s → s ≤ table_source.proposal w + (2 ^ 46 + 2 ^ 40)
  reach s root =
      let a : s < entry * 2 ^ 40 + 2 ^ 40 + 2 ^ 46 = lt_of_squares s (entry * 2 ^ 40 + 2 ^ 40 + 2 ^ 46) (omega (arith, entry_is_root.high, entry_least, root.low)) in
      omega arith

pub table_reach : TableReach
table_reach w s word root = (under w word s root, reach w word s root)

pub table_sound : Sound table_source
table_sound = record {
  graded = omega arith;
  least = λ w h. omega (arith, entry_least w h);
  most = λ w h. omega (arith, entry_most w h);
  near = λ w s h root. let r = table_reach w s h root in record { above = omega (arith, r.0); below = omega (arith, r.1) };
}
