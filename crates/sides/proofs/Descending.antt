-- Sides in descending order: the first is the largest, and the sum of their squares is the same in any order.
use mathlib.Core.Path.{◌≡◌, refl, sym, ap, ◌∙◌}
use mathlib.Core.Bool.{Bool, true, false, cond}
use mathlib.Core.List.{List, [], ◌∷◌}
use Prim.Native.Nat.{ℕ, zero, suc, max, ◌+◌, ◌*◌, ◌^◌, ◌≤◌, ◌<◌}
use native.Mathlib.Omega.{arith}
use lib.Dec.{ltb}
use lib.ListN.{length}
use Rattle.std.proofs.Common.{map, slice_index_or, ◌⊎◌, inl, inr}
use Rattle.std.specs.List.{swap}
use Rattle.std.specs.List.Sorted.{IsPermutation, IsSortedBy}
use Rattle.std.specs.Ordering.{is_lt, is_some_and, ordering_then, nat_cmp}
use Rattle.std.specs.Cmp.{Some-then}
use Rattle.std.proofs.lemmas.List.Sorted.{IsPermutation-keeps, IsPermutation-map, All-permutation}
use Rattle.std.proofs.lemmas.List.Elements.{All-cons, All-nil}
use Rattle.sides.specs.declared.side.Side.{Side}
use borrow.Author.Tests.{ltb-true, ltb-false, lt-ltb, le-ltb}
use Rattle.sides.specs.Order.{side_units, insert, descending, first, is_far}
use Rattle.sides.specs.Poses.{squares}
use Rattle.sides.proofs.Orders.{shorter}

pub squares_insert : (u : ℕ) (sides : List ℕ) → squares (insert u sides) ≡ u * u + squares sides
squares_insert u [] = refl
squares_insert u (v ∷ sides) = go (squares_insert u sides) (ltb u v)
  where
    go : squares (insert u sides) ≡ u * u + squares sides → (b : Bool) → squares (cond b (v ∷ insert u sides) (u ∷ v ∷ sides)) ≡ u * u + (v * v + squares sides)
    go e true = omega (arith, e)
    go e false = refl

pub squares_descending : (sides : List ℕ) → squares (descending sides) ≡ squares sides
squares_descending [] = refl
squares_descending (u ∷ sides) = squares_insert u (descending sides) ∙ ap (λ (x : ℕ). u * u + x) (squares_descending sides)

pub first_insert : (u : ℕ) (sides : List ℕ) → first (insert u sides) ≡ max u (first sides)
first_insert u [] = omega arith
first_insert u (v ∷ sides) = go (ltb u v) refl
  where
    go : (b : Bool) → ltb u v ≡ b → first (cond b (v ∷ insert u sides) (u ∷ v ∷ sides)) ≡ max u v
    go true e = omega (arith, ltb-true u v e)
    go false e = omega (arith, ltb-false u v e)

-- a side no longer than a far one is far
pub far_too : (v u w : ℕ) → w ≤ u → is_far v u ≡ true → is_far v w ≡ true
far_too v u w h f = lt-ltb (w * 2 ^ 27) v (let g : u * 2 ^ 27 < v = ltb-true (u * 2 ^ 27) v f in omega arith)

-- Sides in another order come out the same.

both : {X : Type 0} (u v : ℕ) (f : ℕ → ℕ → X) → cond (ltb u v) (f v u) (f u v) ≡ cond (ltb v u) (f u v) (f v u)
both {X} u v f = go (ltb u v) refl (ltb v u) refl
  where
    go : (s : Bool) → ltb u v ≡ s → (t : Bool) → ltb v u ≡ t → cond s (f v u) (f u v) ≡ cond t (f u v) (f v u)
    go true s true t = absurd (omega (arith, ltb-true u v s, ltb-true v u t))
    go true s false t = refl
    go false s true t = refl
    go false s false t = let e : u ≡ v = omega (arith, ltb-false u v s, ltb-false v u t) in λ i. f (e i) (sym e i)

insert_both : (u v : ℕ) (sides : List ℕ) → insert u (insert v sides) ≡ insert v (insert u sides)
insert_both u v [] = both u v (λ x y. x ∷ y ∷ [])
insert_both u v (w ∷ sides) = go (insert_both u v sides) (ltb u w) refl (ltb v w) refl
  where
    go : insert u (insert v sides) ≡ insert v (insert u sides) → (p : Bool) → ltb u w ≡ p → (q : Bool) → ltb v w ≡ q
        → insert u (cond q (w ∷ insert v sides) (v ∷ w ∷ sides)) ≡ insert v (cond p (w ∷ insert u sides) (u ∷ w ∷ sides))
    go e true p true q = rw (p, q) (ap (λ x. w ∷ x) e)
    go e true p false q = let l : ltb u v ≡ true = lt-ltb u v (omega (arith, ltb-true u w p, ltb-false v w q)) in rw (l, p, q)
    go e false p true q = let l : ltb v u ≡ true = lt-ltb v u (omega (arith, ltb-false u w p, ltb-true v w q)) in rw (l, p, q)
    go e false p false q = rw (p, q) (both u v (λ x y. x ∷ y ∷ w ∷ sides))

ends : (x y z : ℕ) → descending (z ∷ y ∷ x ∷ []) ≡ descending (x ∷ y ∷ z ∷ [])
ends x y z = ap (insert z) (insert_both y x []) ∙ insert_both z x (y ∷ []) ∙ ap (insert x) (insert_both z y [])

-- of three sides
abbrev Same : List ℕ → List ℕ → Type 0
Same us [] = ⊥
Same us (x ∷ []) = ⊥
Same us (x ∷ y ∷ []) = ⊥
Same us (x ∷ y ∷ z ∷ []) = descending (x ∷ y ∷ z ∷ []) ≡ descending us
Same us (x ∷ y ∷ z ∷ w ∷ l) = ⊥

exchanged : (us l : List ℕ) (i j : ℕ) → i < length l → j < length l → Same us l → Same us (swap l i j)
exchanged us [] i j m n e = absurd e
exchanged us (x ∷ []) i j m n e = absurd e
exchanged us (x ∷ y ∷ []) i j m n e = absurd e
exchanged us (x ∷ y ∷ z ∷ []) zero zero m n e = e
exchanged us (x ∷ y ∷ z ∷ []) zero (suc zero) m n e = insert_both y x (z ∷ []) ∙ e
exchanged us (x ∷ y ∷ z ∷ []) zero (suc (suc zero)) m n e = ends x y z ∙ e
exchanged us (x ∷ y ∷ z ∷ []) (suc zero) zero m n e = insert_both y x (z ∷ []) ∙ e
exchanged us (x ∷ y ∷ z ∷ []) (suc zero) (suc zero) m n e = e
exchanged us (x ∷ y ∷ z ∷ []) (suc zero) (suc (suc zero)) m n e = ap (insert x) (insert_both z y []) ∙ e
exchanged us (x ∷ y ∷ z ∷ []) (suc (suc zero)) zero m n e = ends x y z ∙ e
exchanged us (x ∷ y ∷ z ∷ []) (suc (suc zero)) (suc zero) m n e = ap (insert x) (insert_both z y []) ∙ e
exchanged us (x ∷ y ∷ z ∷ []) (suc (suc zero)) (suc (suc zero)) m n e = e
exchanged us (x ∷ y ∷ z ∷ []) (suc (suc (suc i))) j m n e = absurd (omega (arith, m))
exchanged us (x ∷ y ∷ z ∷ []) zero (suc (suc (suc j))) m n e = absurd (omega (arith, n))
exchanged us (x ∷ y ∷ z ∷ []) (suc zero) (suc (suc (suc j))) m n e = absurd (omega (arith, n))
exchanged us (x ∷ y ∷ z ∷ []) (suc (suc zero)) (suc (suc (suc j))) m n e = absurd (omega (arith, n))
exchanged us (x ∷ y ∷ z ∷ w ∷ l) i j m n e = absurd e

-- what a sort leaves of three sides: each is no shorter than the next
abbrev pub Sorted : List Side → Type 0
Sorted = IsSortedBy (λ s t. is_lt (ordering_then (nat_cmp t.bits s.bits) (nat_cmp t.significand s.significand)))

no_longer : (sides : List Side) → Sorted sides → (k : ℕ) (d : Side) → k + 1 < length sides → side_units (slice_index_or sides (k + 1) d) ≤ side_units (slice_index_or sides k d)
no_longer sides o k d h =
    let s = slice_index_or sides k d in
    let t = slice_index_or sides (k + 1) d in
    ltb-false (side_units s) (side_units t) (sym (shorter s t) ∙ ap (is_some_and is_lt) (Some-then (nat_cmp s.bits t.bits) (nat_cmp s.significand t.significand)) ∙ o k d (omega arith) h)

kept_order : (u v w : ℕ) → v ≤ u → w ≤ v → descending (u ∷ v ∷ w ∷ []) ≡ u ∷ v ∷ w ∷ []
kept_order u v w h k = let a = le-ltb v w k in let b = le-ltb u v h in rw (a, b)

pub sorted_are : (a b c : Side) (sides : List Side) (x y z : Side) → IsPermutation (a ∷ b ∷ c ∷ []) sides → Sorted sides
    → side_units (slice_index_or sides 0 x) ∷ side_units (slice_index_or sides 1 y) ∷ side_units (slice_index_or sides 2 z) ∷ [] ≡ descending (side_units a ∷ side_units b ∷ side_units c ∷ [])
sorted_are a b c sides x y z p o =
    let us = map side_units (a ∷ b ∷ c ∷ []) in
    go sides o (IsPermutation-keeps us (Same us) refl (exchanged us) (map side_units sides) (IsPermutation-map side_units (a ∷ b ∷ c ∷ []) sides p))
  where
    go : (sides : List Side) → Sorted sides → Same (map side_units (a ∷ b ∷ c ∷ [])) (map side_units sides)
        → side_units (slice_index_or sides 0 x) ∷ side_units (slice_index_or sides 1 y) ∷ side_units (slice_index_or sides 2 z) ∷ [] ≡ descending (side_units a ∷ side_units b ∷ side_units c ∷ [])
    go [] o e = absurd e
    go (u ∷ []) o e = absurd e
    go (u ∷ v ∷ []) o e = absurd e
    go (u ∷ v ∷ w ∷ []) o e = sym (kept_order (side_units u) (side_units v) (side_units w) (no_longer (u ∷ v ∷ w ∷ []) o 0 u (omega arith)) (no_longer (u ∷ v ∷ w ∷ []) o 1 u (omega arith))) ∙ e
    go (u ∷ v ∷ w ∷ t ∷ l) o e = absurd e

pub descends : (sides : List Side) (x y z : Side) → length sides ≡ 3 → Sorted sides
    → (side_units (slice_index_or sides 1 y) ≤ side_units (slice_index_or sides 0 x)) × (side_units (slice_index_or sides 2 z) ≤ side_units (slice_index_or sides 1 y))
descends [] x y z l o = absurd (omega (arith, l))
descends (u ∷ []) x y z l o = absurd (omega (arith, l))
descends (u ∷ v ∷ []) x y z l o = absurd (omega (arith, l))
descends (u ∷ v ∷ w ∷ sides) x y z l o = let i = no_longer (u ∷ v ∷ w ∷ sides) o in (i 0 u (omega (arith, l)), i 1 u (omega (arith, l)))

pub first_is : (a b c : Side) (sides : List Side) (x : Side) → IsPermutation (a ∷ b ∷ c ∷ []) sides → length sides ≡ 3
    → ((slice_index_or sides 0 x).magnitude ≡ a.magnitude) ⊎ (((slice_index_or sides 0 x).magnitude ≡ b.magnitude) ⊎ ((slice_index_or sides 0 x).magnitude ≡ c.magnitude))
first_is a b c sides x p l =
    let P = λ (s : Side). (s.magnitude ≡ a.magnitude) ⊎ ((s.magnitude ≡ b.magnitude) ⊎ (s.magnitude ≡ c.magnitude)) in
    let all = All-cons P a (b ∷ c ∷ []) (inl refl) (All-cons P b (c ∷ []) (inr (inl refl)) (All-cons P c [] (inr (inr refl)) (All-nil P))) in
    All-permutation P (a ∷ b ∷ c ∷ []) sides p all 0 x (omega (arith, l))
