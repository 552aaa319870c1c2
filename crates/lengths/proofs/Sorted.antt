-- Finite sides of a form in descending order, each with its full length.
use Rattle.std.proofs.Common.{◌≡◌, ℕ, ◌+◌, ◌-◌, ◌*◌, ◌^◌, ◌<◌, ◌≤◌, Bool, true, false, cond, ltb, ◌⊎◌, List, [], ◌∷◌, sym, refl, ap, subst, inl, inr, eq-zero-or-pos, arith, ltb-false, ltb-true}
use Rattle.exact.specs.declared.form.Form.{Form}
use Rattle.exact.specs.Value.{Value, InRange, units}
use Rattle.head.specs.Side.{spare_places}
use Rattle.head.proofs.Lengths.{moved}
use Rattle.sides.specs.declared.side.Side.{Side}
use Rattle.sides.specs.Order.{side_units, insert, descending}
use Rattle.sides.proofs.Sizes.{zero_sized, full_sized}
use Rattle.triangle.specs.Outcome.{magnitude}
use Rattle.lengths.specs.Finite.{SideValue}
use Rattle.lengths.proofs.Finites.{value_short, value_low}
use Rattle.lengths.proofs.PlainCases.{IsValue}
use Rattle.forms.specs.declared.reading.Reading.{Reading}

-- a side of the form with the magnitude u
pub record Sided (form : Form) (u : ℕ) : Type 0 where
  pub side : Side
  pub units_are : side_units side ≡ u
  pub value : SideValue form side

module _ (form : Form) (ok : InRange form) where
  magnitude_sided : (k e : ℕ) → Value form k e → (k ≡ 0) ⊎ (0 < k) → Sided form (units k e)
  magnitude_sided k e v (inl z) = record {
    side = record { magnitude = record { significand = k; exponent = e }; significand = 0; bits = 0; sized = zero_sized k e z };
    units_are = refl;
    value = v;
  }
  magnitude_sided k e v (inr p) =
      let f = moved k p (value_short form ok k e v) in
      let j = spare_places k in
      record {
        side = record {
          magnitude = record { significand = k; exponent = e };
          significand = k * 2 ^ j;
          bits = e + 53 - j;
          sized = full_sized k e (k * 2 ^ j) j f.full refl f.bound (value_low form ok k e v);
        };
        units_are = refl;
        value = v;
      }

  pub reading_sided : (r : Reading) → IsValue form r → Sided form (magnitude r)
  reading_sided r v = subst (Sided form) (sym (ap magnitude v.is)) (magnitude_sided v.k v.e v.value (eq-zero-or-pos v.k))

-- two or three sides in order
pub record Two (form : Form) (sides : List ℕ) : Type 0 where
  pub u : ℕ
  pub v : ℕ
  pub first_sided : Sided form u
  pub second_sided : Sided form v
  pub are : sides ≡ u ∷ v ∷ []
  pub second : v ≤ u

pub record Three (form : Form) (sides : List ℕ) : Type 0 where
  pub u : ℕ
  pub v : ℕ
  pub w : ℕ
  pub first_sided : Sided form u
  pub second_sided : Sided form v
  pub third_sided : Sided form w
  pub are : sides ≡ u ∷ v ∷ w ∷ []
  pub second : v ≤ u
  pub third : w ≤ v

module _ (form : Form) (a b : ℕ) (A : Sided form a) (B : Sided form b) where
  pub two_sorted : Two form (descending (a ∷ b ∷ []))
  two_sorted = go (ltb a b) refl
    where
      go : (t : Bool) → ltb a b ≡ t → Two form (cond t (b ∷ a ∷ []) (a ∷ b ∷ []))
      go true e = let h : a < b = ltb-true a b e in record { u = b; v = a; first_sided = B; second_sided = A; are = refl; second = omega arith }
      go false e = record { u = a; v = b; first_sided = A; second_sided = B; are = refl; second = ltb-false a b e }

-- one more side among two in order
insert_sorted : (form : Form) (a u v : ℕ) → Sided form a → Sided form u → Sided form v → v ≤ u → Three form (insert a (u ∷ v ∷ []))
insert_sorted form a u v A U V h = go (ltb a u) (ltb a v) refl refl
  where
    go : (s t : Bool) → ltb a u ≡ s → ltb a v ≡ t → Three form (cond s (u ∷ cond t (v ∷ a ∷ []) (a ∷ v ∷ [])) (a ∷ u ∷ v ∷ []))
    go true true e f = let l : a < v = ltb-true a v f in record { u = u; v = v; w = a; first_sided = U; second_sided = V; third_sided = A; are = refl; second = h; third = omega arith }
    go true false e f = let l : a < u = ltb-true a u e in record { u = u; v = a; w = v; first_sided = U; second_sided = A; third_sided = V; are = refl; second = omega arith; third = ltb-false a v f }
    go false t e f = record { u = a; v = u; w = v; first_sided = A; second_sided = U; third_sided = V; are = refl; second = ltb-false a u e; third = h }

pub three_sorted : (form : Form) (a b c : ℕ) → Sided form a → Sided form b → Sided form c → Three form (descending (a ∷ b ∷ c ∷ []))
three_sorted form a b c A B C =
    let t = two_sorted form b c B C in
    subst (λ (l : List ℕ). Three form (insert a l)) (sym t.are) (insert_sorted form a t.u t.v A t.first_sided t.second_sided t.second)
