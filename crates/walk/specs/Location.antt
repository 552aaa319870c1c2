-- Where a root lies among the whole numbers, in units of 2 ^ e, and the choice of the nearest.
use Rattle.std.specs.Prelude.{◌≡◌, ℕ, ◌+◌, ◌*◌, ◌/◌, ◌%◌, ◌^◌, ◌<◌, ◌≤◌, Bool, true, false, cond, ◌&&◌, ◌==◌, ◌≢◌, nat_lt}
use Rattle.exact.specs.Length.{NearestWhole}
use Rattle.walk.specs.declared.location.Half.{Half}
use Rattle.walk.specs.declared.location.Half.TheVariants.{Below, At, Above}
use Rattle.walk.specs.declared.location.Location.{Location}

-- r is the floor root of n in units of 2 ^ e, with a number of binary places; exact says whether it is the root itself
pub record FloorToPlaces (n e places r : ℕ) (exact : Bool) : Type 0 where
  pub low : r * r * 4 ^ e ≤ n * 4 ^ places
  pub high : n * 4 ^ places < (r + 1) * (r + 1) * 4 ^ e
  pub is_exact : exact ≡ true → r * r * 4 ^ e ≡ n * 4 ^ places
  pub not_exact : exact ≡ false → r * r * 4 ^ e ≢ n * 4 ^ places

-- on which side of b the number a lies
abbrev pub Side : Half → ℕ → ℕ → Type 0
Side Below a b = a < b
Side At a b = a ≡ b
Side Above a b = b < a

-- where the root of n lies in units of 2 ^ e
pub record Located (n e : ℕ) (l : Location) : Type 0 where
  -- between the floor k and k + 1
  pub low : l.floor * l.floor * 4 ^ e ≤ n
  pub high : n < (l.floor + 1) * (l.floor + 1) * 4 ^ e
  -- below, at or above k + 1/2
  pub half : Side l.half (4 * n) ((2 * l.floor + 1) * (2 * l.floor + 1) * 4 ^ e)
  -- at k itself exactly where it says so
  pub is_exact : l.exact ≡ true → l.floor * l.floor * 4 ^ e ≡ n
  pub not_exact : l.exact ≡ false → l.floor * l.floor * 4 ^ e ≢ n

-- the floor or the next number, whichever is nearer; of two equally near the even one
abbrev pub nearer : Half → ℕ → ℕ
nearer Below k = k
nearer At k = k + k % 2
nearer Above k = k + 1

-- the same by a location
abbrev pub nearest_choice : Location → ℕ
nearest_choice l = nearer l.half l.floor

-- a location tells enough to choose the nearest whole number
abbrev pub ChoiceIsNearest : Type 0
ChoiceIsNearest = (n e : ℕ) (l : Location) → Located n e l → NearestWhole n e (nearest_choice l)

-- The location, computed.

-- the side of the half of a tail, or of a little more than it where it is not exact
abbrev pub side_of_half : ℕ → ℕ → Bool → Half
side_of_half tail half exact = cond (nat_lt tail half) Below (cond (tail == half && exact) At Above)

-- a root located among the multiples of twice a half
abbrev pub located_at : ℕ → Bool → ℕ → Location
located_at root exact half = record {
  floor = root / (2 * half);
  half = side_of_half (root % (2 * half)) half exact;
  exact = root % (2 * half) == 0 && exact;
}
