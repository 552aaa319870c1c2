-- One pattern answers for each outcome: the length is the computed one, and its value has one pattern.
use Rattle.std.proofs.Common.{◌≡◌, ℕ, ◌+◌, ◌*◌, ◌<◌, ◌≤◌, Bool, true, false, cond, leb, [], ◌∷◌, sym, refl, ap, ◌∙◌, subst, arith, leb-false, leb-true}
use Rattle.exact.specs.Value.{Value, units, largest_value}
use Rattle.exact.specs.Length.{Length, length_significand, length_exponent}
use Rattle.exact.proofs.Lengths.{length_exists, length_unique}
use Rattle.exact.proofs.Values.{length_is_value, length_is_nearest, length_within, value_is_length, value_most, some_bits}
use Rattle.forms.specs.declared.reading.Reading.TheVariants.{Finite}
use Rattle.forms.specs.Encoding.{Encoding, Lawful}
use Rattle.triangle.specs.Outcome.{Outcome, not_a_number, infinite, root_of, hypot_outcome}
use Rattle.triangle.specs.Answer.{written_or_infinity, root_pattern, answer, hypot_pattern, AnswersRoot, Answers, OneAnswer}

module _ {P : Type 0} (encoding : Encoding P) (law : Lawful encoding) (n k e : ℕ) (l : Length encoding.form.precision n k e) where
  abbrev largest : ℕ
  largest = largest_value encoding.form

  -- another length is this one
  moved : (Q : ℕ → ℕ → Type 0) (j f : ℕ) → Length encoding.form.precision n j f → Q k e → Q j f
  moved Q j f m q =
      let a = length_unique encoding.form.precision n k e l in
      let b = length_unique encoding.form.precision n j f m in
      subst (λ (x : ℕ). Q x f) (a.0 ∙ sym b.0) (subst (λ (x : ℕ). Q k x) (a.1 ∙ sym b.1) q)

  by_test : (b : Bool) → leb (units k e) largest ≡ b → AnswersRoot encoding n (cond b (encoding.written k e) encoding.plus_infinity)
  by_test true t =
      let reads = law.reads_back k e (length_is_value encoding.form law.in_range n k e l (leb-true _ _ t)) in
      record {
        within = λ h. (k, e, reads, length_is_nearest encoding.form law.in_range n k e l h);
        finite = λ j f m h. moved (λ (x y : ℕ). encoding.reading (encoding.written k e) ≡ Finite false x y) j f m reads;
        beyond = λ j f m h. absurd (omega (arith, moved (λ (x y : ℕ). units x y ≤ largest) j f m (leb-true _ _ t), h));
      }
  by_test false t = record {
    within = λ h. absurd (omega (arith, leb-false _ _ t, length_within encoding.form law.in_range n k e l h));
    finite = λ j f m h. absurd (omega (arith, moved (λ (x y : ℕ). largest < units x y) j f m (leb-false _ _ t), h));
    beyond = λ j f m h. refl;
  }

  -- what answers is the pattern of this length, or plus infinity
  by_length : (b : Bool) → leb (units k e) largest ≡ b → (pattern : P) → AnswersRoot encoding n pattern → pattern ≡ cond b (encoding.written k e) encoding.plus_infinity
  by_length true t pattern a = law.one_pattern pattern k e (a.finite k e l (leb-true _ _ t))
  by_length false t pattern a = a.beyond k e l (leb-false _ _ t)

  -- to write a length that is a value, and else answer plus infinity, gives that pattern
  pub writes : (r : P) → (Value encoding.form k e → r ≡ encoding.written k e) → ((Value encoding.form k e → ⊥) → r ≡ encoding.plus_infinity) → r ≡ root_pattern encoding n
  unfolding root_pattern
  writes r value beyond =
      let u = length_unique encoding.form.precision n k e l in
      by_case (leb (units k e) largest) refl ∙ (λ i. written_or_infinity encoding (u.0 i) (u.1 i))
    where
      by_case : (b : Bool) → leb (units k e) largest ≡ b → r ≡ cond b (encoding.written k e) encoding.plus_infinity
      by_case true t = value (length_is_value encoding.form law.in_range n k e l (leb-true _ _ t))
      by_case false t = beyond (λ v. omega (arith, leb-false _ _ t, value_most encoding.form law.in_range k e v))

module _ {P : Type 0} (encoding : Encoding P) (law : Lawful encoding) where
  abbrev p : ℕ
  p = encoding.form.precision

  pub root_answers : (n : ℕ) → AnswersRoot encoding n (root_pattern encoding n)
  unfolding root_pattern
  root_answers n = by_test encoding law n (length_significand p n) (length_exponent p n) (length_exists p n (some_bits encoding.form law.in_range)) _ refl

  pub root_only : (n : ℕ) (pattern : P) → AnswersRoot encoding n pattern → pattern ≡ root_pattern encoding n
  unfolding root_pattern
  root_only n pattern a = by_length encoding law n (length_significand p n) (length_exponent p n) (length_exists p n (some_bits encoding.form law.in_range)) _ refl pattern a

  all_answer : (outcome : Outcome) → Answers encoding outcome (answer encoding outcome)
  all_answer not_a_number = refl
  all_answer infinite = refl
  all_answer (root_of n) = root_answers n

  only_one : (outcome : Outcome) (pattern : P) → Answers encoding outcome pattern → pattern ≡ answer encoding outcome
  only_one not_a_number pattern a = a
  only_one infinite pattern a = a
  only_one (root_of n) pattern a = root_only n pattern a

  -- the square of a value has that value as its root
  own_length : (k e : ℕ) → Value encoding.form k e → encoding.reading (root_pattern encoding (units k e * units k e + 0)) ≡ Finite false k e
  own_length k e v =
      (root_answers (units k e * units k e + 0)).finite k e
      (subst (λ (n : ℕ). Length p n k e) (omega arith) (value_is_length encoding.form law.in_range k e v))
      (value_most encoding.form law.in_range k e v)

  alone : (pattern : P) (negative : Bool) (k e : ℕ) → encoding.reading pattern ≡ Finite negative k e
      → encoding.reading (hypot_pattern encoding (pattern ∷ [])) ≡ Finite false k e
  alone pattern negative k e q =
      ap (λ r. encoding.reading (answer encoding (hypot_outcome (r ∷ [])))) q ∙ own_length k e (law.reads_values pattern negative k e q)

  pub one_answer : OneAnswer encoding
  one_answer = record { answers = all_answer; only = only_one; nan_reads = law.nan_is_quiet; infinity_reads = law.infinity_is_plus; alone = alone }
