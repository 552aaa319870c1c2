-- The root of a word has 54 bits, since the radicand lies between 2 ^ 106 and 2 ^ 108.
use Rattle.std.specs.Prelude.{ℕ, ◌+◌, ◌^◌, ◌<◌, ◌≤◌}
use Rattle.std.proofs.Common.{arith}
use Rattle.exact.proofs.Squares.{lt_of_squares}
use Rattle.sources.specs.Source.{Word, WordRoot}

module _ (w s : ℕ) (word : Word w) (root : WordRoot w s) where
  pub root_least : 2 ^ 53 ≤ s
  root_least = let a : 2 ^ 53 < s + 1 = lt_of_squares (2 ^ 53) (s + 1) (omega (arith, root.high)) in omega arith

  pub root_most : s < 2 ^ 54
  root_most = lt_of_squares s (2 ^ 54) (omega (arith, root.low))
