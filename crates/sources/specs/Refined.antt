-- Refining: steps by Newton's rule on proposals, and what they make of a source.
use Rattle.std.specs.Prelude.{ℕ, zero, suc, ◌+◌, ◌-◌, ◌*◌, ◌/◌, ◌^◌, ◌≤◌, min, cond, nat_le}
use Rattle.sources.specs.Source.{Source, Word, WordRoot, Within}

-- the radicand of the word w over a guess g
abbrev pub word_quotient : ℕ → ℕ → ℕ
word_quotient w g = w * 2 ^ 44 / g

-- a step from the guess g: the mean of g and the quotient, kept below 2 ^ 54
abbrev pub refined_guess : ℕ → ℕ → ℕ
refined_guess w g = min (2 ^ 54 - 1) ((g + word_quotient w g) / 2)

-- the grade after a step from the grade c
abbrev pub refined_grade : ℕ → ℕ
refined_grade c = cond (nat_le c 26) 0 (2 * c - 53)

-- f applied n times
unfoldable pub repeated : ℕ → (ℕ → ℕ) → ℕ → ℕ
repeated zero f x = x
repeated (suc n) f x = f (repeated n f x)

-- what a number of steps makes of a source
abbrev pub refined : ℕ → Source → Source
refined steps source = record {
  grade = repeated steps refined_grade source.grade;
  proposal = λ w. repeated steps (refined_guess w) (source.proposal w);
}

-- A step from a guess g that lies at most d from the root s of the word w never ends below the root,
-- and above it by at most (d + 1) ^ 2 / 2 ^ 54, rounded up to a whole number e.
abbrev pub StepError : Type 0
StepError = (w s g d e : ℕ) → Word w → WordRoot w s → 2 ^ 53 ≤ g → Within d s g → (d + 1) * (d + 1) ≤ e * 2 ^ 54
    → (s ≤ refined_guess w g) × (refined_guess w g ≤ s + e)
