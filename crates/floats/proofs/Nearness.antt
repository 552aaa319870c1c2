-- The algebra of relative nearness: relative errors add up along chains and products, and sums keep the larger one.
use Rattle.std.proofs.Common.{ℕ, ◌+◌, ◌*◌, ◌<◌, ◌≤◌, subst, mul-le-mul_right, mul-one, le_of_mul-le-mul_right, arith}
use Rattle.floats.specs.Near.{Near}

-- both multiplied by k
pub near_scale : (n d x y k : ℕ) → Near n d x y → Near n d (x * k) (y * k)
near_scale n d x y k h = record { above = omega (arith, mul-le-mul_right k h.above); below = omega (arith, mul-le-mul_right k h.below) }

pub near_unscale : (n d x y k : ℕ) → 0 < k → Near n d (x * k) (y * k) → Near n d x y
near_unscale n d x y k K h = record { above = le_of_mul-le-mul_right {k = k} (omega arith) K; below = le_of_mul-le-mul_right {k = k} (omega arith) K }

pub near_one : (n d x y : ℕ) → Near n d (x * 1) y → Near n d x y
near_one n d x y h = subst (λ (z : ℕ). Near n d z y) (mul-one x) h

pub near_sum : (n d x y x' y' : ℕ) → Near n d x y → Near n d x' y' → Near n d (x + x') (y + y')
near_sum n d x y x' y' h k = record { above = omega arith; below = omega arith }

pub near_chain : (n d m e x y z : ℕ) → Near n d x y → Near m e y z → Near (n * e + m * d + n * m) (d * e) x z
near_chain n d m e x y z h k = record {
  above = omega (arith, mul-le-mul_right e h.above, mul-le-mul_right (d + n) k.above);
  below = omega (arith, mul-le-mul_right e h.below, mul-le-mul_right d k.below, mul-le-mul_right n k.above);
}

pub near_product : (n d m e x y x' y' : ℕ) → Near n d x y → Near m e x' y' → Near (n * e + m * d + n * m) (d * e) (x * x') (y * y')
near_product n d m e x y x' y' h k =
    near_chain n d m e (x * x') (y * x') (y * y') (near_scale n d x y x' h)
    (let p = near_scale m e x' y' y k in record { above = omega arith; below = omega arith })

-- n / d ≤ m / e
pub near_weaken : (n d m e x y : ℕ) → 0 < d → n * e ≤ m * d → Near n d x y → Near m e x y
near_weaken n d m e x y D l h = record {
  above = le_of_mul-le-mul_right {k = d} (omega (arith, mul-le-mul_right e h.above, mul-le-mul_right y l)) D;
  below = le_of_mul-le-mul_right {k = d} (omega (arith, mul-le-mul_right e h.below, mul-le-mul_right y l)) D;
}

-- a part z of the sum that is left out
pub near_left_out : (n d x y z : ℕ) → z * d ≤ y → Near n d x y → Near (n + 1) d x (y + z)
near_left_out n d x y z l h = record { above = omega arith; below = omega arith }

-- each at most twice the other
pub record Alike (x y : ℕ) : Type 0 where
  pub most : x ≤ y * 2
  pub least : y ≤ x * 2

pub near_alike : (n d x y : ℕ) → 0 < d → n * 2 ≤ d → Near n d x y → Alike x y
near_alike n d x y D l h = record {
  most = le_of_mul-le-mul_right {k = d} (omega (arith, h.above, mul-le-mul_right y l)) D;
  least = le_of_mul-le-mul_right {k = d} (omega (arith, h.below, mul-le-mul_right y l)) D;
}
