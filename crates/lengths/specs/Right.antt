-- What is right of a call's pattern and count, in words that name no method.
use Rattle.std.specs.Prelude.{◌≡◌, ℕ, ◌+◌, ◌-◌, ◌*◌, ◌^◌, ◌≤◌, Some, None, Option}
use Rattle.std.specs.Float.Ieee.{size}
use Rattle.forms.specs.Encoding.{Encoding}
use Rattle.sources.specs.Source.{Source}
use Rattle.head.specs.Head.{Heads}
use Rattle.head.specs.Bound.{FloorRootOf}
use Rattle.walk.specs.Walk.{distance}
use Rattle.lengths.specs.declared.call.Call.{Call}
use Rattle.triangle.specs.Answer.{Answers}
use Rattle.lengths.specs.Asked.{Asked, asked, outcome, radicand, largest, head_of}
use Rattle.lengths.specs.Plain.{plain}
use Rattle.lengths.specs.LengthOf.{length_of}

-- the pattern answers for what the call comes to: special cases have theirs, and a root has the nearest value, far sides included
abbrev pub AnswersCall : {P : Type 0} → Encoding P → Call P → P → Type 0
AnswersCall encoding call pattern = Answers encoding (outcome (asked encoding call)) pattern

-- the count is the distance from the source's proposal for the head word of the sides to the floor root of the exact
-- radicand in the word's scale
pub record Walked (source : Source) (a : Asked) (count : ℕ) : Type 0 where
  pub word : ℕ
  pub places : ℕ
  pub root : ℕ
  pub heads : Heads (head_of a) word places
  pub floor : FloorRootOf (radicand a * 4 ^ (22 + places)) (4 ^ (size (largest a) - 1)) root
  pub walked : count ≡ distance (source.proposal word) root

-- and zero in a plain case
abbrev pub CountedUnless : {P : Type 0} → Option P → Source → Asked → ℕ → Type 0
CountedUnless (Some pattern) source a count = count ≡ 0
CountedUnless None source a count = Walked source a count

abbrev pub CountsCall : {P : Type 0} → Encoding P → Source → Call P → ℕ → Type 0
CountsCall encoding source call count = CountedUnless (plain encoding (asked encoding call)) source (asked encoding call) count

-- every call's pattern and count are right, and the count is at most 2 ^ grade + 4
pub record RightLengths {P : Type 0} (encoding : Encoding P) (source : Source) : Type 0 where
  pub answers : (call : Call P) → AnswersCall encoding call (length_of encoding source call).pattern
  pub counts : (call : Call P) → CountsCall encoding source call (length_of encoding source call).count
  pub bounded : (call : Call P) → (length_of encoding source call).count ≤ 2 ^ source.grade + 4
  -- the pattern is the same with any source
  pub independent : (other : Source) (call : Call P) → (length_of encoding source call).pattern ≡ (length_of encoding other call).pattern
