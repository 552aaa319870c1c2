-- A space before each field, looked for in one chunk after another: all have one, or one has none.
use Rattle.std.proofs.Common.{◌≡◌, ℕ, zero, suc, ◌+◌, ◌*◌, ◌/◌, ◌<◌, ◌≤◌, Bool, true, false, ◌&&◌, eqb, ◌≢◌, List, [], length, get_or, Some, None, Option, option_map, Bor, sym, refl, ap, ◌∙◌, subst, ⊎_elim, mul-le-mul, arith, eq-eqb, ne_eqb}
use Rattle.std.proofs.Math.Nat.{mul-div_cancel}
use Rattle.std.proofs.lemmas.Bool.{cases_lt}
use Rattle.std.specs.Bool.{IsTrue, MatchBool}
use Rattle.std.specs.List.{IsSubsliceAt}
use Rattle.std.specs.Option.{IfSome, IsSomeAnd}
use Rattle.std.specs.Fn.{Called, Mut}
use Rattle.std.specs.Iterator.Runs.{Run, IsChunksExactRun, CallKeepsClosure, AllItemsGive, AnyItemGives}
use Rattle.commands.specs.Fields.{spaced, laid_out}

and_false : (b : Bool) → (b && false) ≡ false
and_false true = refl
and_false false = refl

-- all spaces are there
all_spaced : (digits count : ℕ) (rest : List ℕ) → ((i : ℕ) → i < count → get_or rest (i * (digits + 1)) 0 ≡ 32) → spaced digits count rest ≡ true
unfolding spaced
all_spaced digits zero rest each = refl
all_spaced digits (suc before) rest each =
    ap (λ (b : Bool). b && eqb (get_or rest (before * (digits + 1)) 0) 32) (all_spaced digits before rest (λ i lt. each i (omega arith)))
    ∙ eq-eqb (get_or rest (before * (digits + 1)) 0) 32 (each before (omega arith))

-- one space missing among so many
missing_space : (digits i count : ℕ) (rest : List ℕ) → i < count → get_or rest (i * (digits + 1)) 0 ≢ 32 → spaced digits count rest ≡ false
unfolding spaced
missing_space digits i zero rest lt other = absurd (omega arith)
missing_space digits i (suc before) rest lt other = ⊎_elim
    (λ (h : i < before). ap (λ (b : Bool). b && eqb (get_or rest (before * (digits + 1)) 0) 32) (missing_space digits i before rest h other))
    (λ (h : before ≤ i). last (omega arith))
    (cases_lt i before)
  where
    last : i ≡ before → spaced digits (suc before) rest ≡ false
    last e =
        ap (λ (b : Bool). spaced digits before rest && b) (subst (λ (n : ℕ). eqb (get_or rest (n * (digits + 1)) 0) 32 ≡ false) e (ne_eqb (get_or rest (i * (digits + 1)) 0) 32 other))
        ∙ and_false (spaced digits before rest)

-- an item of a run, where one stands
item_at : {A : Type 0} (o : Option A) (P : A → Type 0) (x : A) → option_map (λ y. y) o ≡ Some x → IfSome o P → IsSomeAnd o P
item_at None P x is h = absurd (grind (arith, is))
item_at (Some y) P x is h = h

-- an item of a run that is cut into chunks begins where its chunk does
front_of : (o : Option (Bor (List ℕ))) (digits k : ℕ) (rest : List ℕ) (P : Bor (List ℕ) → Type 0)
    → IfSome o (λ x. (length x.now ≡ digits + 1) × (k * (digits + 1) + (digits + 1) ≤ length rest) × IsSubsliceAt (digits + 1) rest (k * (digits + 1)) x.now)
    → IsSomeAnd o P → (x : Bor (List ℕ)) × P x × (0 < length x.now) × (k * (digits + 1) < length rest) × (get_or rest (k * (digits + 1)) 0 ≡ get_or x.now 0 0)
front_of None digits k rest P part so = elim so [ ]
front_of (Some x) digits k rest P part so =
    let first : 0 < digits + 1 = omega arith in
    let begins : k * (digits + 1) + 0 ≡ k * (digits + 1) = omega arith in
    (x, so, omega (arith, part.0), omega (arith, part.1), sym (part.2.2 0 0 first ∙ ap (λ i. get_or rest i 0) begins))

lt-of-mul : (a b n : ℕ) → a * n < b * n → a < b
lt-of-mul a b n lt = ⊎_elim (λ (h : a < b). h) (λ (h : b ≤ a). absurd (over h)) (cases_lt a b)
  where
    over : b ≤ a → ⊥
    over h = let same : n ≤ n = omega arith in omega (arith, lt, mul-le-mul h same)

-- what a closure answers to the chunks tells whether each begins with a space
module _ {S F : Type 0} {steps : S → Option (Bor (List ℕ)) → S → Type 0} (p : Run steps) (g : Mut F (Bor (List ℕ) × Unit {0}) Bool) (f : F) (keeps : CallKeepsClosure g f)
    (yes : (x : Bor (List ℕ)) → Called g f (x, tt) true f → get_or x.now 0 0 ≡ 32)
    (no : (x : Bor (List ℕ)) → Called g f (x, tt) false f → 0 < length x.now → get_or x.now 0 0 ≢ 32)
    (digits count : ℕ) (rest : List ℕ) (long : length rest ≡ count * (digits + 1)) (parts : IsChunksExactRun p (digits + 1) rest) where
  space_each : p.whole ≡ true → AllItemsGive p g f true → (k : ℕ) → k < count → get_or rest (k * (digits + 1)) 0 ≡ 32
  space_each whole gives k lt =
      let many : p.len ≡ count = parts.1 whole ∙ ap (λ n. n / (digits + 1)) long ∙ mul-div_cancel count {n = digits + 1} (omega arith) in
      let none : Bor (List ℕ) = record { ref_ptr = (0, 0); now = [] } in
      let found = front_of (p.at k) digits k rest (λ x. Called g f (x, tt) true f) (parts.2 k) (item_at (p.at k) (λ x. Called g f (x, tt) true f) _ (p.reads k none (omega (arith, many, lt))) (gives keeps k)) in
      found.4 ∙ yes found.0 found.1

  pub seen_spaces : (r : Bool) → MatchBool r (IsTrue p.whole × AllItemsGive p g f true) (AnyItemGives p g f false) → r ≡ laid_out digits count rest
  seen_spaces true all =
      sym (ap (λ (b : Bool). b && spaced digits count rest) (eq-eqb (length rest) (count * (digits + 1)) long) ∙ all_spaced digits count rest (space_each all.0 all.1))
  seen_spaces false any =
      let bad = any keeps in
      let found = front_of (p.at bad.0) digits bad.0 rest (λ x. Called g f (x, tt) false f) (parts.2 bad.0) bad.2 in
      let other : get_or rest (bad.0 * (digits + 1)) 0 ≢ 32 = λ space. no found.0 found.1 found.2 (sym found.4 ∙ space) in
      sym (ap (λ (b : Bool). eqb (length rest) (count * (digits + 1)) && b) (missing_space digits bad.0 count rest (lt-of-mul bad.0 count (digits + 1) (omega (arith, found.3, long))) other)
      ∙ and_false (eqb (length rest) (count * (digits + 1))))
