-- Where nothing about the sides is special, they come to the root of the sum of their squares.
use Rattle.std.proofs.Common.{◌≡◌, ℕ, ◌+◌, ◌*◌, Bool, true, false, cond, List, [], ◌∷◌, None, refl, ap, ◌∙◌, arith}
use Rattle.forms.specs.declared.reading.Reading.{Reading}
use Rattle.forms.specs.Encoding.{Encoding}
use Rattle.forms.specs.Kinds.{is_signalling, is_infinite, is_quiet}
use Rattle.triangle.specs.Outcome.{Outcome, not_a_number, infinite, root_of, some, magnitude, sum_of_squares, hypot_outcome}
use Rattle.triangle.specs.Answer.{special_pattern}

module _ {P : Type 0} (encoding : Encoding P) where
  -- the three tests in their order
  chosen : Bool → Bool → Bool → ℕ → Outcome
  chosen a b c n = cond a not_a_number (cond b infinite (cond c not_a_number (root_of n)))

  by_tests : (a b c : Bool) (n : ℕ) → special_pattern encoding (chosen a b c n) ≡ None → chosen a b c n ≡ root_of n
  unfolding chosen
  by_tests true b c n q = let z : ◌≡◌ {A = ℕ} 0 1 = cc in absurd (omega arith)
  by_tests false true c n q = let z : ◌≡◌ {A = ℕ} 0 1 = cc in absurd (omega arith)
  by_tests false false true n q = let z : ◌≡◌ {A = ℕ} 0 1 = cc in absurd (omega arith)
  by_tests false false false n q = refl

  nothing_special : (sides : List Reading) → special_pattern encoding (hypot_outcome sides) ≡ None → hypot_outcome sides ≡ root_of (sum_of_squares sides)
  unfolding chosen
  nothing_special sides q = by_tests (some is_signalling sides) (some is_infinite sides) (some is_quiet sides) (sum_of_squares sides) q

  pub two_sides : (x y : Reading) (a b : ℕ) → special_pattern encoding (hypot_outcome (x ∷ y ∷ [])) ≡ None → a ≡ magnitude x → b ≡ magnitude y
      → hypot_outcome (x ∷ y ∷ []) ≡ root_of (a * a + b * b)
  two_sides x y a b q p r = nothing_special (x ∷ y ∷ []) q ∙ ap root_of (omega (arith, ap (λ (z : ℕ). z * z) p, ap (λ (z : ℕ). z * z) r))
