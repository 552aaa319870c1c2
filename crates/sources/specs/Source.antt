-- Root sources: what a source of proposals for the root of a word means, and what it keeps to.
use Rattle.std.specs.Prelude.{ℕ, ◌+◌, ◌*◌, ◌^◌, ◌<◌, ◌≤◌, cond, Some, None, Option, nat_lt}
use Rattle.exact.specs.Root.{FloorRoot, isqrt}

-- the words that a source proposes a root for
pub record Word (w : ℕ) : Type 0 where
  pub least : 2 ^ 62 ≤ w
  pub most : w < 2 ^ 64

-- s is the root of the word w: the largest whole number whose square is at most w * 2 ^ 44
abbrev pub WordRoot : ℕ → ℕ → Type 0
WordRoot w s = FloorRoot (w * 2 ^ 44) s

-- the whole meaning of a source: its grade, and one proposal for each word
pub record Source : Type 0 where
  pub grade : ℕ
  pub proposal : ℕ → ℕ

-- g lies at most d from s
pub record Within (d s g : ℕ) : Type 0 where
  pub above : g ≤ s + d
  pub below : s ≤ g + d

-- what every source keeps to: its proposals have 54 bits, and lie at most 2 ^ grade from the word's root
pub record Sound (source : Source) : Type 0 where
  pub graded : source.grade ≤ 53
  pub least : (w : ℕ) → Word w → 2 ^ 53 ≤ source.proposal w
  pub most : (w : ℕ) → Word w → source.proposal w < 2 ^ 54
  pub near : (w s : ℕ) → Word w → WordRoot w s → Within (2 ^ source.grade) s (source.proposal w)

-- the answer to a number of 64 bits: its proposal, or nothing below 2 ^ 62
abbrev pub proposed : Source → ℕ → Option ℕ
proposed source w = cond (nat_lt w (2 ^ 62)) None (Some (source.proposal w))

-- the source that proposes the word's root itself
abbrev pub exact_source : Source
exact_source = record { grade = 0; proposal = λ w. isqrt (w * 2 ^ 44) }
