-- The head sum of sides: their radicand in floats, each operation rounded once, in the order written.
use Rattle.std.specs.Prelude.{false, List, [], ◌∷◌, ℕ, ◌-◌, ◌^◌, pos, Float}
use Rattle.std.specs.Float.{fin, binary64}
use Rattle.std.specs.Float.Ieee.{size, round, add, mul}
use Rattle.head.specs.Squares.{squares_difference}
use Rattle.sides.specs.Order.{descending, near}

-- the side u over the power of two that brings the largest side to at least 1 and below 2; a side that is not far is a
-- float, and nothing is rounded
abbrev pub scaled : ℕ → ℕ → Float
scaled largest u = round binary64 false u (2 ^ (size largest - 1))

-- the square of a scaled side
abbrev pub scaled_square : ℕ → ℕ → Float
scaled_square largest u = mul binary64 (scaled largest u) (scaled largest u)

-- the squares of further sides added one by one
abbrev pub add_squares : ℕ → Float → List ℕ → Float
add_squares largest h [] = h
add_squares largest h (u ∷ sides) = add_squares largest (add binary64 h (scaled_square largest u)) sides

-- for sides in descending order, x * x + y * y, or (x * x + y * y) + z * z, far ones left out
abbrev pub sum_in_order : List ℕ → Float
sum_in_order [] = fin false 0 (pos 0)
sum_in_order (u ∷ sides) = add_squares u (scaled_square u u) (near u sides)

abbrev pub head_sum : List ℕ → Float
head_sum sides = sum_in_order (descending sides)

-- for a hypotenuse x and a leg y, (x - y) * (x + y)
abbrev pub head_difference : ℕ → ℕ → Float
head_difference x y = squares_difference (scaled x x) (scaled x y)
