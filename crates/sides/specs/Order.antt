-- Sides by their magnitudes: their order, and which of them are far. A magnitude counts units of the form's least exponent.
use Rattle.std.specs.Prelude.{Bool, cond, List, [], ◌∷◌, ℕ, ◌*◌, ◌^◌, ltb}
use Rattle.exact.specs.Value.{units}
use Rattle.sides.specs.declared.side.Side.{Side}

-- the magnitude of a side
abbrev pub side_units : Side → ℕ
side_units side = units side.magnitude.significand side.magnitude.exponent

-- one more side among sides in descending order
abbrev pub insert : ℕ → List ℕ → List ℕ
insert u [] = u ∷ []
insert u (v ∷ sides) = cond (ltb u v) (v ∷ insert u sides) (u ∷ v ∷ sides)

-- the sides in descending order
abbrev pub descending : List ℕ → List ℕ
descending [] = []
descending (u ∷ sides) = insert u (descending sides)

-- the first side, and zero where there is none
abbrev pub first : List ℕ → ℕ
first [] = 0
first (u ∷ sides) = u

-- a side is far when it is less than 2 ^ -27 of the largest
abbrev pub is_far : ℕ → ℕ → Bool
is_far largest u = ltb (u * 2 ^ 27) largest

-- the sides that are not far
abbrev pub near : ℕ → List ℕ → List ℕ
near largest [] = []
near largest (u ∷ sides) = cond (is_far largest u) (near largest sides) (u ∷ near largest sides)
