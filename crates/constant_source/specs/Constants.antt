-- A root of 54 bits lies less than 2 ^ 53 above the least of them.
use Rattle.std.specs.Prelude.{◌≡◌, ℕ, zero, suc, refl}
use Rattle.std.proofs.Common.{ap, arith}
use Rattle.sources.specs.Source.{Sound}
use Rattle.sources.specs.Refined.{refined_grade, repeated, refined}
use Rattle.sources.specs.Words.{root_least, root_most}
use Rattle.constant_source.specs.Constant.{constant_source}

pub constant_sound : Sound constant_source
constant_sound = record {
  graded = omega arith;
  least = λ w h. omega arith;
  most = λ w h. omega arith;
  near = λ w s h root. record { above = omega (arith, root_least w s h root); below = omega (arith, root_most w s h root) };
}

pub grade_stays : (steps : ℕ) → (refined steps constant_source).grade ≡ 53
unfolding repeated
grade_stays zero = refl
grade_stays (suc steps) = ap refined_grade (grade_stays steps)
