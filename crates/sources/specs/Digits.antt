-- The root digit by digit: what the root so far leaves of the bits brought down is at most twice the root.
use Rattle.std.specs.Prelude.{◌≡◌, ℕ, ◌+◌, ◌-◌, ◌*◌, ◌/◌, ◌%◌, ◌^◌, ◌<◌, ◌≤◌}
use Rattle.std.proofs.Common.{ap, lt_of_lt_of_le, arith, pow-add}
use Rattle.exact.specs.Root.{isqrt}
use Rattle.exact.proofs.Roots.{is_isqrt, isqrt_is, root_unique}
use Rattle.exact.proofs.Squares.{two_le}
use Rattle.sources.specs.Source.{Sound, exact_source}
use Rattle.sources.specs.Words.{root_least, root_most}

-- after n turns: 2 * n bits of the word are brought down and the others are left, at the top of 64 bits
pub record SoFar (w root residual left n : ℕ) : Type 0 where
  pub sum : (root * root + residual) * 2 ^ 64 + left ≡ w * 4 ^ n
  pub small : residual ≤ 2 * root
  pub digits : root < 2 ^ n
  pub rest : left < 2 ^ 64

pub none_yet : (w : ℕ) → w < 2 ^ 64 → SoFar w 0 0 w 0
none_yet w h = record { sum = omega arith; small = omega arith; digits = omega arith; rest = h }

-- room for one more digit in 64 bits
pub record Room (root residual : ℕ) : Type 0 where
  pub for_root : root < 2 ^ 53
  pub for_residual : residual < 2 ^ 54

module _ (w root residual left n : ℕ) (so : SoFar w root residual left n) where
  -- two more bits
  abbrev brought : ℕ
  brought = 4 * residual + left / 2 ^ 62

  shifted : (root * 2 * (root * 2) + brought) * 2 ^ 64 + left * 4 % 2 ^ 64 ≡ w * 4 ^ (n + 1)
  shifted = omega (arith, so.sum, so.rest, ap (λ (x : ℕ). w * x) (pow-add 4 n 1))

  pub digit_one : (x y : ℕ) → 2 * (root * 2) < brought → x ≡ root * 2 + 1 → y ≡ brought - (2 * (root * 2) + 1) → SoFar w x y (left * 4 % 2 ^ 64) (n + 1)
  digit_one x y h p q = record {
    sum = omega (arith, shifted, ap (λ (z : ℕ). z * z) p, q);
    small = omega (arith, so.small, so.rest, p, q);
    digits = omega (arith, so.digits, pow-add 2 n 1, p);
    rest = omega arith;
  }

  pub digit_zero : (x y : ℕ) → brought ≤ 2 * (root * 2) → x ≡ root * 2 → y ≡ brought → SoFar w x y (left * 4 % 2 ^ 64) (n + 1)
  digit_zero x y h p q = record {
    sum = omega (arith, shifted, ap (λ (z : ℕ). z * z) p, q);
    small = omega (arith, h, p, q);
    digits = omega (arith, so.digits, pow-add 2 n 1, p);
    rest = omega arith;
  }

-- what the loop keeps: up to 54 turns there is room, and after 54 the whole radicand is brought down
pub record AfterTurns (w root residual left n : ℕ) : Type 0 where
  pub so_far : SoFar w root residual left n
  pub room : n < 54 → Room root residual
  pub whole : n ≡ 54 → root ≡ isqrt (w * 2 ^ 44)

pub after_turns : (w root residual left n : ℕ) → SoFar w root residual left n → AfterTurns w root residual left n
after_turns w root residual left n so = record {
  so_far = so;
  room = λ h.
      let i : n ≤ 53 = omega arith in
      let a = lt_of_lt_of_le so.digits (two_le n 53 i) in
      record { for_root = a; for_residual = omega (arith, so.small) };
  whole = λ h.
      let a : 4 ^ n ≡ 4 ^ 54 = ap (λ (x : ℕ). 4 ^ x) h in
      let e : root * root + residual ≡ w * 2 ^ 44 = omega (arith, so.sum, so.rest, ap (λ (x : ℕ). w * x) a) in
      is_isqrt (w * 2 ^ 44) root (record { low = omega arith; high = omega (arith, so.small) });
}

pub exact_sound : Sound exact_source
exact_sound = record {
  graded = omega arith;
  least = λ w h. root_least w (isqrt (w * 2 ^ 44)) h (isqrt_is (w * 2 ^ 44));
  most = λ w h. root_most w (isqrt (w * 2 ^ 44)) h (isqrt_is (w * 2 ^ 44));
  near = λ w s h root. let e = root_unique (w * 2 ^ 44) s (isqrt (w * 2 ^ 44)) root (isqrt_is (w * 2 ^ 44)) in record { above = omega (arith, e); below = omega (arith, e) };
}
