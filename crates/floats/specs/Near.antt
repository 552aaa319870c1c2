-- How near one number is to another, in relation to its size.
use Rattle.std.specs.Prelude.{ℕ, ◌+◌, ◌*◌, ◌≤◌}

-- x differs from y by at most n / d of y
pub record Near (n d x y : ℕ) : Type 0 where
  pub above : x * d ≤ y * d + y * n
  pub below : y * d ≤ x * d + y * n
