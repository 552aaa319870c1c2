-- A column by its entries: what stands above an entry is written, and what the definition leaves from there on stays the same
-- from turn to turn.
use Rattle.std.proofs.Common.{◌≡◌, ℕ, ◌+◌, ◌-◌, ◌<◌, ◌≤◌, Bool, true, false, cond, List, ◌∷◌, ◌++◌, length, get_or, take, drop, set, Ok, Err, Result, sym, refl, ap, ◌∙◌, arith}
use Rattle.std.proofs.lemmas.List.{drop_more, drop_all, take_more_set, drop-set-lt, append_assoc, append-nil, take_all, take-append-drop}
use Rattle.forms.specs.Encoding.{Encoding}
use Rattle.sources.specs.Source.{Source}
use Rattle.lengths.specs.declared.call.Measured.{Measured}
use Rattle.lengths.specs.LengthOf.{length_of}
use Rattle.solver.specs.declared.refusal.CallRefusal.{CallRefusal}
use Rattle.solver.specs.declared.refusal.CallRefusal.TheVariants.{TooFewSteps}
use Rattle.solver.specs.declared.states.Sealed.{Sealed}
use Rattle.solver.specs.Serving.{serves, with_steps_left, call_result, after_call}
use Rattle.columns.specs.declared.column.Operation.{Operation}
use Rattle.columns.specs.declared.refusal.EntryRefused.{EntryRefused}
use Rattle.columns.specs.declared.refusal.ColumnRefusal.{ColumnRefusal}
use Rattle.columns.specs.declared.refusal.ColumnRefusal.TheVariants.{AtEntry}
use Rattle.columns.specs.Column.{LeftBy, left_by, call_of, at_place, entries}

pub head_drop : {P : Type 0} (xs : List P) (i : ℕ) (x : P) → i < length xs → x ≡ get_or xs i x → drop i xs ≡ x ∷ drop (i + 1) xs
head_drop xs i x h r = drop_more xs i x h ∙ ap (λ z. z ∷ drop (i + 1) xs) (sym r)

-- how an entry ended tells what its call returned
pub served_at : {P : Type 0} (i : ℕ) (r : Result (Measured P) CallRefusal) (measured : Measured P) → Ok measured ≡ at_place i r → r ≡ Ok measured
served_at i (Ok other) measured e = cc
served_at i (Err refusal) measured e = absurd (let z : ◌≡◌ {A = ℕ} 0 1 = cc in omega arith)

pub refused_at : {P : Type 0} (i : ℕ) (r : Result (Measured P) CallRefusal) (refused : EntryRefused) → Err refused ≡ at_place i r
    → (r ≡ Err refused.refusal) × (refused ≡ record { place = i; refusal = refused.refusal })
refused_at i (Ok measured) refused e = (cc, cc)
refused_at i (Err refusal) refused e =
    let is : refused ≡ record { place = i; refusal = refusal } = cc in
    (ap (λ (z : EntryRefused). Err z.refusal) (sym is), ap (λ n. record { place = n; refusal = refused.refusal }) (ap (λ (z : EntryRefused). z.place) is))

-- a refused call leaves the solver as it was
module _ {F R P : Type 0} (solver : Sealed F R) (measured : Measured P) where
  unserved : (b : Bool) (refusal : CallRefusal) → cond b (Ok measured) (Err (TooFewSteps solver.steps_left)) ≡ Err refusal
      → with_steps_left solver (cond b (solver.steps_left - measured.count) solver.steps_left) ≡ solver
  unserved true refusal e = cc
  unserved false refusal e = refl

module _ {F R P : Type 0} (encoding : Encoding P) (meaning : R → Source) (operation : Operation) where
  -- what a column leaves, told at entry i
  abbrev pub rest : ℕ → Sealed F R → List P → List P → List P → List ℕ → LeftBy F R P
  rest i solver xs ys ls cs =
      let later = entries encoding meaning operation i solver (drop i xs) (drop i ys) (drop i ls) (drop i cs) in
      left_by (take i ls ++ later.lengths) (take i cs ++ later.counts) later.solver later.result

  module _ (i : ℕ) (solver after : Sealed F R) (xs ys ls : List P) (cs : List ℕ) (x y : P) where
    abbrev made : Result (Measured P) CallRefusal
    made = call_result encoding meaning solver (call_of operation x y)

    module _
        (ws : after ≡ after_call encoding meaning solver (call_of operation x y))
        (rx : x ≡ get_or xs i x)
        (ry : y ≡ get_or ys i y)
        (hx : i < length xs)
        (hy : i < length ys)
        (hl : i < length ls)
        (hc : i < length cs)
      where
        -- a served entry is written, and the next one follows
        pub rest_more : (measured : Measured P) → made ≡ Ok measured → rest i solver xs ys ls cs ≡ rest (i + 1) after xs ys (set ls i measured.pattern) (set cs i measured.count)
        rest_more measured e =
            let dx = head_drop xs i x hx rx in
            let dy = head_drop ys i y hy ry in
            let dl = drop_more ls i x hl in
            let dc = drop_more cs i 0 hc in
            let tl = take_more_set ls i measured.pattern hl in
            let tc = take_more_set cs i measured.count hc in
            let sl = drop-set-lt (i + 1) ls i measured.pattern (omega arith) in
            let sc = drop-set-lt (i + 1) cs i measured.count (omega arith) in
            simp (dx, dy, dl, dc, ws, e, tl, tc, sl, sc, append_assoc)

        -- a refused entry stops the column, and it and the later entries keep their contents
        pub rest_stop : (refusal : CallRefusal) → made ≡ Err refusal → (r : Result (Unit {0}) ColumnRefusal) → r ≡ Err (AtEntry (record { place = i; refusal = refusal }))
            → (all : LeftBy F R P) → rest i solver xs ys ls cs ≡ all → left_by ls cs after r ≡ all
        rest_stop refusal e r q all h =
            let dx = head_drop xs i x hx rx in
            let dy = head_drop ys i y hy ry in
            let dl = drop_more ls i x hl in
            let dc = drop_more cs i 0 hc in
            let el = ap (λ z. take i ls ++ z) (sym dl) ∙ take-append-drop i ls in
            let ec = ap (λ z. take i cs ++ z) (sym dc) ∙ take-append-drop i cs in
            let same : after ≡ solver = ws ∙ unserved solver (length_of encoding (meaning solver.source) (call_of operation x y)) (serves (meaning solver.source) solver.steps_left) refusal e in
            let here : rest i solver xs ys ls cs ≡ left_by ls cs after r = simp (dx, dy, dl, dc, same, e, el, ec, q) in
            sym here ∙ h

  -- behind the last entry there is nothing left to do
  rest_none : (i : ℕ) (solver : Sealed F R) (xs ys ls : List P) (cs : List ℕ) → length xs ≤ i → length ls ≡ length xs → length cs ≡ length xs
      → left_by ls cs solver (Ok tt) ≡ rest i solver xs ys ls cs
  rest_none i solver xs ys ls cs hx hl hc =
      let dx = drop_all i xs hx in
      let dl = drop_all i ls (omega arith) in
      let dc = drop_all i cs (omega arith) in
      let tl = take_all i ls (omega arith) in
      let tc = take_all i cs (omega arith) in
      simp (dx, dl, dc, tl, tc, append-nil)

  pub all_served : (i : ℕ) (solver : Sealed F R) (xs ys ls : List P) (cs : List ℕ) (all : LeftBy F R P) → length xs ≤ i → length ls ≡ length xs → length cs ≡ length xs
      → rest i solver xs ys ls cs ≡ all → left_by ls cs solver (Ok tt) ≡ all
  all_served i solver xs ys ls cs all hx hl hc e = rest_none i solver xs ys ls cs hx hl hc ∙ e

-- what a `?` at a refused entry returns
pub stopped : (r : Result (Unit {0}) ColumnRefusal) (why : ColumnRefusal) (refused other : EntryRefused) → r ≡ Err why → why ≡ AtEntry refused → refused ≡ other → r ≡ Err (AtEntry other)
stopped r why refused other p q e = cc
