-- The error budget of a float radicand. One rounding errs by at most 2 ^ -53 of its result, and errors add up along the operations;
-- the small products of errors fit into half of one. So x * x + y * y, with a square and a sum behind every term, is within 5 * 2 ^ -54
-- of the exact sum, and one more sum or a product of two rounded numbers is within 7 * 2 ^ -54.
-- U is one in units, and what is rounded stands over it.
use Rattle.std.proofs.Common.{ℕ, ◌+◌, ◌*◌, ◌^◌, arith, lit<, lit≤}
use Rattle.floats.specs.Near.{Near}
use Rattle.floats.proofs.Nearness.{near_scale, near_sum, near_chain, near_product, near_weaken}

-- two roundings
abbrev twice : ℕ
twice = 1 * 2 ^ 53 + 1 * 2 ^ 53 + 1 * 1

-- three roundings are within 7 * 2 ^ -54
thrice : (x y z : ℕ) → Near 1 (2 ^ 53) x y → Near twice (2 ^ 53 * 2 ^ 53) y z → Near 7 (2 ^ 54) x z
thrice x y z h k =
    near_weaken (1 * (2 ^ 53 * 2 ^ 53) + twice * 2 ^ 53 + 1 * twice) (2 ^ 53 * (2 ^ 53 * 2 ^ 53)) 7 (2 ^ 54) x z (lit< tt) (lit≤ tt)
    (near_chain 1 (2 ^ 53) twice (2 ^ 53 * 2 ^ 53) x y z h k)

-- a rounded sum, over U
sum_over : (U P Q R : ℕ) → Near 1 (2 ^ 53) R (P + Q) → Near 1 (2 ^ 53) (R * U) (P * U + Q * U)
sum_over U P Q R h = let s = near_scale 1 (2 ^ 53) R (P + Q) U h in record { above = omega (arith, s.above); below = omega (arith, s.below) }

-- two squares x and y, rounded to P and Q, and R, their rounded sum
module _ (U x y P Q R : ℕ) (p : Near 1 (2 ^ 53) (P * U) x) (q : Near 1 (2 ^ 53) (Q * U) y) (r : Near 1 (2 ^ 53) R (P + Q)) where
  two : Near twice (2 ^ 53 * 2 ^ 53) (R * U) (x + y)
  two = near_chain 1 (2 ^ 53) 1 (2 ^ 53) (R * U) (P * U + Q * U) (x + y) (sum_over U P Q R r) (near_sum 1 (2 ^ 53) (P * U) x (Q * U) y p q)

  pub two_error : Near 5 (2 ^ 54) (R * U) (x + y)
  two_error = near_weaken twice (2 ^ 53 * 2 ^ 53) 5 (2 ^ 54) (R * U) (x + y) (lit< tt) (lit≤ tt) two

  -- and a third square z, rounded to S and added last
  pub three_error : (z S V : ℕ) → Near 1 (2 ^ 53) (S * U) z → Near 1 (2 ^ 53) V (R + S) → Near 7 (2 ^ 54) (V * U) (x + y + z)
  three_error z S V s v =
      let w = near_weaken 1 (2 ^ 53) twice (2 ^ 53 * 2 ^ 53) (S * U) z (lit< tt) (lit≤ tt) s in
      thrice (V * U) (R * U + S * U) (x + y + z) (sum_over U R S V v) (near_sum twice (2 ^ 53 * 2 ^ 53) (R * U) (x + y) (S * U) z two w)

-- a difference x and a sum y, rounded to D and S, and R, their rounded product
pub leg_error : (U x y D S R : ℕ) → Near 1 (2 ^ 53) D x → Near 1 (2 ^ 53) S y → Near 1 (2 ^ 53) (R * U) (D * S) → Near 7 (2 ^ 54) (R * U) (x * y)
leg_error U x y D S R p q r = thrice (R * U) (D * S) (x * y) r (near_product 1 (2 ^ 53) 1 (2 ^ 53) D x S y p q)
