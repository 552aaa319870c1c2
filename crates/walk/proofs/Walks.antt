-- The walk over whole numbers: near the root the residual modulo 2 ^ 64 tells the signed residual, its sign and
-- size tell on which side the root lies, and a step takes the next odd number from it.
use Rattle.std.proofs.Common.{◌≡◌, ℕ, zero, suc, ◌+◌, ◌-◌, ◌*◌, ◌%◌, ◌^◌, ◌<◌, ◌≤◌, ℤ, pos, ◌+ℤ◌, ◌<ℤ◌, ap, ◌∙◌, subst, inl, inr, mul-le-mul, arith, w64, to_z}
use Rattle.std.proofs.lemmas.Int.{ints}
use Rattle.exact.specs.Root.{FloorRoot, isqrt}
use Rattle.exact.proofs.Squares.{lt_of_squares, lt_or_le, squares_le, le_unless}
use Rattle.exact.proofs.Roots.{isqrt_is, is_isqrt}
use Rattle.radicand.specs.declared.words.Radicand.{Radicand}
use Rattle.radicand.specs.Stands.{whole, radicand_floor}
use Rattle.walk.specs.Walk.{distance, walk_limit, Walkable}

-- a difference of less than 2 ^ 63 either way is not lost modulo 2 ^ 64
pub residual_is : (hi lo square : ℕ) → lo < 2 ^ 64 → whole hi lo < square + 2 ^ 63 → square < whole hi lo + 2 ^ 63
    → pos square +ℤ to_z w64 ((lo + (2 ^ 64 - square % 2 ^ 64)) % 2 ^ 64) ≡ pos (whole hi lo)
residual_is hi lo square word a b =
    elim (lt_or_le (whole hi lo) square) [
      | inl h ↦ let e : (lo + (2 ^ 64 - square % 2 ^ 64)) % 2 ^ 64 ≡ 2 ^ 64 - (square - whole hi lo) = omega arith in rw e (grind (arith, ints))
      | inr h ↦ let e : (lo + (2 ^ 64 - square % 2 ^ 64)) % 2 ^ 64 < 2 ^ 63 = omega arith in omega (arith, ints)
    ]

-- a square less than 2 ^ 63 from n
pub record SquareNear (n square : ℕ) : Type 0 where
  pub below : n < square + 2 ^ 63
  pub above : square < n + 2 ^ 63

-- (g + k) * (g + k) exceeds g * g by 2 * g * k + k * k
spread : (g h : ℕ) → g ≤ h → h - g ≤ walk_limit → g < 2 ^ 54 → h * h ≤ g * g + 5 * 2 ^ 60
spread g h le near small =
    let k = h - g in
    let e : h ≡ g + k = omega arith in
    let a : g * k ≤ 2 ^ 54 * 132 = mul-le-mul {n₂ = 2 ^ 54} {m₂ = 132} (omega arith) (omega arith) in
    let b : k * k ≤ 132 * 132 = mul-le-mul {n₂ = 132} {m₂ = 132} (omega arith) (omega arith) in
    let f : h * h ≡ g * g + 2 * (g * k) + k * k = ap (λ (x : ℕ). x * x) e ∙ omega arith in
    omega (arith, a, b, f)

pub near_root : (n g : ℕ) → g < 2 ^ 54 → distance g (isqrt n) ≤ walk_limit → SquareNear n (g * g)
near_root n g small near = go (isqrt n) near (isqrt_is n)
  where
    go : (r : ℕ) → distance g r ≤ walk_limit → FloorRoot n r → SquareNear n (g * g)
    go r d h =
        elim (lt_or_le r g) [
          | inl l ↦ record { below = omega (arith, squares_le (r + 1) g (omega arith)); above = omega (arith, spread r g (omega arith) (omega arith) (omega arith)) }
          | inr l ↦ record { below = omega (arith, spread g r (omega arith) (omega arith) small); above = omega (arith, squares_le g r l) }
        ]

pub lies_below : (n g : ℕ) → n < g * g → isqrt n < g
lies_below n g h = lt_of_squares (isqrt n) g (omega (arith, (isqrt_is n).low))

pub lies_above : (n g : ℕ) → g * g + 2 * g < n → g < isqrt n
lies_above n g h = let a : g + 1 < isqrt n + 1 = lt_of_squares (g + 1) (isqrt n + 1) (omega (arith, (isqrt_is n).high)) in omega arith

-- the signed residual r of a guess g that is neither too high nor too low
module _ (n g : ℕ) (r : ℤ) (residual : pos (g * g) +ℤ r ≡ pos n) where
  pub not_high : (r <ℤ pos 0 → ⊥) → g * g ≤ n
  not_high h = le_unless (g * g) n (λ (x : n < g * g). h (omega (arith, ints)))

  pub not_low : (pos (2 * g) <ℤ r → ⊥) → n ≤ g * g + 2 * g
  not_low h = le_unless n (g * g + 2 * g) (λ (x : g * g + 2 * g < n). h (omega (arith, ints)))

pub arrived : (n g : ℕ) → g * g ≤ n → n ≤ g * g + 2 * g → g ≡ isqrt n
arrived n g a b = is_isqrt n g (record { low = a; high = omega arith })

pub one_down : (g h : ℕ) → 0 < g → h ≡ g - 1 → h * h + 2 * g ≡ g * g + 1
one_down zero h p e = elim p [ ]
one_down (suc g) h p e = let f : h ≡ g = omega arith in omega (arith, ap (λ (x : ℕ). x * x) f)

pub one_up : (g h : ℕ) → h ≡ g + 1 → h * h ≡ g * g + 2 * g + 1
one_up g h e = omega (arith, ap (λ (x : ℕ). x * x) e)

-- a proposal near a known floor root r
pub starts_near : (radicand : Radicand) (p r : ℕ) → r * r ≤ radicand_floor radicand → radicand_floor radicand < (r + 1) * (r + 1)
    → 2 ^ 53 ≤ p → p < 2 ^ 54 → distance p r ≤ walk_limit → Walkable radicand p
starts_near radicand p r low high least most near = record {
  least = least;
  most = most;
  near = subst (λ (x : ℕ). distance p x ≤ walk_limit) (is_isqrt (radicand_floor radicand) r (record { low = low; high = high })) near;
}
