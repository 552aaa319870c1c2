-- The choice by a location: below the half the floor k, above it k + 1, and at it the even one of both is nearest.
use Rattle.std.proofs.Common.{◌≡◌, ℕ, ◌+◌, ◌-◌, ◌*◌, ◌%◌, ◌^◌, ◌<◌, ◌≤◌, sym, ap, subst, inl, inr, eq-zero-or-pos, mul-lt-mul_of_pos_right, arith}
use Rattle.exact.specs.Length.{NearestWhole}
use Rattle.exact.proofs.Squares.{four_pos}
use Rattle.walk.specs.declared.location.Half.{Half}
use Rattle.walk.specs.declared.location.Half.TheVariants.{Below, At, Above}
use Rattle.walk.specs.Location.{Side, nearer, ChoiceIsNearest}

-- the root of n lies from k on and below k + 1, in units whose square is x
module _ (n k x : ℕ) (x_pos : 0 < x) (low : k * k * x ≤ n) (high : n < (k + 1) * (k + 1) * x) where
  -- so it lies above k - 1/2
  above_lower : 0 < k → (2 * k - 1) * (2 * k - 1) * x < 4 * n
  above_lower pos =
      let o : 2 * k - 1 + 1 ≡ 2 * k = omega arith in
      let s : (2 * k - 1) * (2 * k - 1) < 2 * k * (2 * k) = omega (arith, ap (λ (y : ℕ). y * y) o) in
      omega (arith, mul-lt-mul_of_pos_right s x_pos, low)

  -- and below k + 3/2
  below_upper : 4 * n < (2 * (k + 1) + 1) * (2 * (k + 1) + 1) * x
  below_upper = omega (arith, high)

-- 2 * (k + 1) - 1 is 2 * k + 1
module _ (k x : ℕ) where
  odd_square : (2 * (k + 1) - 1) * (2 * (k + 1) - 1) * x ≡ (2 * k + 1) * (2 * k + 1) * x
  odd_square = ap (λ (y : ℕ). y * y * x) {x = 2 * (k + 1) - 1} {y = 2 * k + 1} (omega arith)

module _ (n e k : ℕ) (low : k * k * 4 ^ e ≤ n) (high : n < (k + 1) * (k + 1) * 4 ^ e) where
  takes_floor : 4 * n ≤ (2 * k + 1) * (2 * k + 1) * 4 ^ e → (4 * n ≡ (2 * k + 1) * (2 * k + 1) * 4 ^ e → k % 2 ≡ 0) → NearestWhole n e k
  takes_floor h even = record {
    low = λ pos. let a = above_lower n k (4 ^ e) (four_pos e) low high pos in omega (arith, a);
    high = h;
    even_low = λ pos q. let a = above_lower n k (4 ^ e) (four_pos e) low high pos in absurd (omega (arith, a, q));
    even_high = even;
  }

  takes_next : (2 * k + 1) * (2 * k + 1) * 4 ^ e ≤ 4 * n → ((2 * k + 1) * (2 * k + 1) * 4 ^ e ≡ 4 * n → (k + 1) % 2 ≡ 0) → NearestWhole n e (k + 1)
  takes_next h even =
      let a = below_upper n k (4 ^ e) (four_pos e) low high in
      let o = odd_square k (4 ^ e) in
      record {
        low = λ _. omega (arith, o, h);
        high = omega (arith, a);
        even_low = λ _ q. even (omega (arith, o, q));
        even_high = λ q. absurd (omega (arith, a, q));
      }

  chosen : (half : Half) → Side half (4 * n) ((2 * k + 1) * (2 * k + 1) * 4 ^ e) → NearestWhole n e (nearer half k)
  chosen Below s = takes_floor (omega arith) (λ q. absurd (omega arith))
  chosen At s =
      elim (eq-zero-or-pos (k % 2)) [
        | inl z ↦ let q : k + k % 2 ≡ k = omega arith in subst (NearestWhole n e) (sym q) (takes_floor (omega arith) (λ _. z))
        | inr p ↦ let q : k + k % 2 ≡ k + 1 = omega arith in subst (NearestWhole n e) (sym q) (takes_next (omega arith) (λ _. omega arith))
      ]
  chosen Above s = takes_next (omega arith) (λ q. absurd (omega arith))

pub choice_is_nearest : ChoiceIsNearest
choice_is_nearest n e l h = chosen n e l.floor h.low h.high l.half h.half
