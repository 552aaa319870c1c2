-- A column's calls go on the log one by one: the entries that were served so far grow by one with each turn.
use Rattle.std.proofs.Common.{◌≡◌, ℕ, zero, suc, ◌+◌, ◌<◌, ◌≤◌, List, [], ◌∷◌, ◌++◌, length, get_or, take, set, Ok, Err, Result, ap, add-one, arith}
use Rattle.std.proofs.lemmas.List.{take_all}
use Rattle.forms.specs.Encoding.{Encoding}
use Rattle.sources.specs.Source.{Source}
use Rattle.lengths.specs.declared.call.Measured.{Measured}
use Rattle.solver.specs.declared.refusal.CallRefusal.{CallRefusal}
use Rattle.solver.specs.declared.states.Sealed.{Sealed}
use Rattle.solver.specs.Serving.{call_result}
use Rattle.solver.specs.Log.{Logs, told_call}
use Rattle.solver.proofs.Extensions.{logs_join}
use Rattle.columns.specs.declared.column.Operation.{Operation}
use Rattle.columns.specs.declared.refusal.ColumnRefusal.{ColumnRefusal}
use Rattle.columns.specs.declared.refusal.ColumnRefusal.TheVariants.{AtEntry}
use Rattle.columns.specs.Column.{call_of}
use Rattle.columns.specs.ColumnLog.{served_entries, told_column}
use Rattle.columns.proofs.Entries.{head_drop}

-- one entry more, written into both answer columns
served_more : {P : Type 0} (operation : Operation) (n : ℕ) (xs ys ls : List P) (cs : List ℕ) (x y : P) (measured : Measured P) → x ≡ get_or xs n x → y ≡ get_or ys n y
    → n < length xs → n < length ys → n < length ls → n < length cs
    → take (suc n) (served_entries operation xs ys (set ls n measured.pattern) (set cs n measured.count)) ≡ take n (served_entries operation xs ys ls cs) ++ told_call (call_of operation x y) (Ok measured)
served_more operation n [] ys ls cs x y measured rx ry hx hy hl hc = absurd (omega arith)
served_more operation n (a ∷ xs) [] ls cs x y measured rx ry hx hy hl hc = absurd (omega arith)
served_more operation n (a ∷ xs) (b ∷ ys) [] cs x y measured rx ry hx hy hl hc = absurd (omega arith)
served_more operation n (a ∷ xs) (b ∷ ys) (l ∷ ls) [] x y measured rx ry hx hy hl hc = absurd (omega arith)
served_more operation zero (a ∷ xs) (b ∷ ys) (l ∷ ls) (c ∷ cs) x y measured rx ry hx hy hl hc = rw (rx, ry)
served_more operation (suc n) (a ∷ xs) (b ∷ ys) (l ∷ ls) (c ∷ cs) x y measured rx ry hx hy hl hc =
    ap (λ z. told_call (call_of operation a b) (Ok (record { pattern = l; count = c })) ++ z)
    (served_more operation n xs ys ls cs x y measured rx ry (omega arith) (omega arith) (omega arith) (omega arith))

served_length : {P : Type 0} (operation : Operation) (xs ys ls : List P) (cs : List ℕ) → length (served_entries operation xs ys ls cs) ≤ length xs
served_length operation [] ys ls cs = omega arith
served_length operation (x ∷ xs) [] ls cs = omega arith
served_length operation (x ∷ xs) (y ∷ ys) [] cs = omega arith
served_length operation (x ∷ xs) (y ∷ ys) (l ∷ ls) [] = omega arith
served_length operation (x ∷ xs) (y ∷ ys) (l ∷ ls) (c ∷ cs) = omega (arith, served_length operation xs ys ls cs)

module _ {F R P : Type 0} (encoding : Encoding P) (meaning : R → Source) (operation : Operation) (first solver after : Sealed F R) (i : ℕ) (xs ys ls : List P) (cs : List ℕ) where
  -- the entries before i are logged
  abbrev pub Logged : Type 0
  Logged = Logs encoding meaning first (take i (served_entries operation xs ys ls cs)) solver

  module _ (x y : P) where
    abbrev made : Result (Measured P) CallRefusal
    made = call_result encoding meaning solver (call_of operation x y)

    module _
        (rx : x ≡ get_or xs i x)
        (ry : y ≡ get_or ys i y)
        (hx : i < length xs)
        (hy : i < length ys)
        (hl : i < length ls)
        (hc : i < length cs)
        (before : Logged)
        (here : Logs encoding meaning solver (told_call (call_of operation x y) made) after)
      where
        pub logs_entry : (measured : Measured P) → made ≡ Ok measured → Logs encoding meaning first (take (i + 1) (served_entries operation xs ys (set ls i measured.pattern) (set cs i measured.count))) after
        logs_entry measured e =
            let told = rw e at here in
            rw (add-one, served_more operation i xs ys ls cs x y measured rx ry hx hy hl hc) (logs_join encoding meaning first solver after _ (told_call (call_of operation x y) (Ok measured)) before told)

        pub logs_stop : (refusal : CallRefusal) → made ≡ Err refusal → (r : Result (Unit {0}) ColumnRefusal) → r ≡ Err (AtEntry (record { place = i; refusal = refusal }))
            → Logs encoding meaning first (told_column operation xs ys ls cs r) after
        logs_stop refusal e r q =
            let told = rw e at here in
            rw (q, head_drop xs i x hx rx, head_drop ys i y hy ry) (logs_join encoding meaning first solver after _ (told_call (call_of operation x y) (Err refusal)) before told)

  pub logs_all : length xs ≤ i → Logged → Logs encoding meaning first (served_entries operation xs ys ls cs) solver
  logs_all h before = rw (take_all i (served_entries operation xs ys ls cs) (omega (arith, served_length operation xs ys ls cs))) at before
