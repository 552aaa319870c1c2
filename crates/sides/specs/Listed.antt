-- Ordered sides as a list.
use Rattle.std.specs.Prelude.{List, [], ◌∷◌, ℕ}
use Rattle.sides.specs.declared.ordered.Ordered.{Ordered}
use Rattle.sides.specs.Order.{side_units}

abbrev pub ordered_units : Ordered → List ℕ
ordered_units sides = side_units sides.first ∷ side_units sides.second ∷ side_units sides.third ∷ []
