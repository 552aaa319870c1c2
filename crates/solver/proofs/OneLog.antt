-- Each list of requests has one complete log: the steps left decide what the next entry of a request is, so a log is made
-- request by request, and two logs of the same requests agree entry by entry.
use Rattle.std.proofs.Common.{◌≡◌, ℕ, ◌-◌, Bool, true, false, leb, List, [], ◌∷◌, ◌++◌, sym, refl, ap, ◌∙◌, subst, arith, leb-false, leb-true, Ok, Err}
use Rattle.std.proofs.lemmas.List.{append_assoc, append-nil}
use Rattle.forms.specs.Encoding.{Encoding}
use Rattle.sources.specs.Source.{Source}
use Rattle.lengths.specs.LengthOf.{length_of}
use Rattle.solver.specs.declared.refusal.CallRefusal.TheVariants.{TooFewSteps}
use Rattle.solver.specs.declared.log.Request.{Request}
use Rattle.solver.specs.declared.log.Request.TheVariants.{Length, NewScan}
use Rattle.solver.specs.declared.log.Done.TheVariants.{Served, Renewed}
use Rattle.solver.specs.declared.log.Entry.{Entry}
use Rattle.solver.specs.Sealing.{reserve}
use Rattle.solver.specs.Log.{Next, Complete, length_entry, scan_entry, requests_of}
use Rattle.solver.specs.Log.Next.{serve, refuse, renew}
use Rattle.solver.specs.Log.Complete.{opens, goes_on}
use Rattle.solver.specs.Law.{OneLog}
use Rattle.solver.proofs.Splits.{none_more}

pub requests_more : {P : Type 0} (log : List (Entry P)) (entry : Entry P) → requests_of (log ++ entry ∷ []) ≡ requests_of log ++ entry.request ∷ []
requests_more [] entry = refl
requests_more (x ∷ xs) entry = ap (λ z. x.request ∷ z) (requests_more xs entry)

-- two lists with one more element each
last_same : {A : Type 0} (xs ys : List A) (x y : A) → xs ++ x ∷ [] ≡ ys ++ y ∷ [] → (xs ≡ ys) × (x ≡ y)
last_same [] [] x y p = (refl, cc)
last_same [] (b ∷ bs) x y p = absurd (none_more bs y [] (cc))
last_same (a ∷ xs) [] x y p = absurd (none_more xs x [] (cc))
last_same (a ∷ xs) (b ∷ bs) x y p =
    let q : xs ++ x ∷ [] ≡ bs ++ y ∷ [] = cc in
    let h : a ≡ b = cc in
    let t = last_same xs bs x y q in
    (ap (λ z. z ∷ xs) h ∙ ap (λ z. b ∷ z) t.0, t.1)

module _ {P : Type 0} (encoding : Encoding P) (source : Source) (allowance : ℕ) where
  -- a request has an entry
  record Comes (left : ℕ) (request : Request P) : Type 0 where
    pub entry : Entry P
    pub after : ℕ
    pub next : Next encoding source allowance left entry after
    pub asks : entry.request ≡ request

  comes : (left : ℕ) (request : Request P) → Comes left request
  comes left (Length call) = go (leb (reserve source) left) refl
    where
      go : (b : Bool) → leb (reserve source) left ≡ b → Comes left (Length call)
      go true e = record {
        entry = length_entry call (Ok (Served (length_of encoding source call)));
        after = left - (length_of encoding source call).count;
        next = serve call (leb-true (reserve source) left e);
        asks = refl;
      }
      go false e = record { entry = length_entry call (Err (TooFewSteps left)); after = left; next = refuse call (leb-false (reserve source) left e); asks = refl }
  comes left NewScan = record { entry = scan_entry (Ok Renewed); after = allowance; next = renew; asks = refl }

  -- and no other
  same_next : (left : ℕ) (e : Entry P) (after : ℕ) (d : Entry P) (rest : ℕ) → Next encoding source allowance left e after → Next encoding source allowance left d rest
      → e.request ≡ d.request → (e ≡ d) × (after ≡ rest)
  same_next left e after d rest (serve a h) (serve b k) p =
      let q : a ≡ b = cc in
      (ap (λ z. length_entry z (Ok (Served (length_of encoding source z)))) q, ap (λ z. left - (length_of encoding source z).count) q)
  same_next left e after d rest (serve a h) (refuse b k) p = absurd (omega arith)
  same_next left e after d rest (serve a h) renew p = (cc, cc)
  same_next left e after d rest (refuse a h) (serve b k) p = absurd (omega arith)
  same_next left e after d rest (refuse a h) (refuse b k) p =
      let q : a ≡ b = cc in
      (ap (λ z. length_entry z (Err (TooFewSteps left))) q, refl)
  same_next left e after d rest (refuse a h) renew p = (cc, cc)
  same_next left e after d rest renew (serve b k) p = (cc, cc)
  same_next left e after d rest renew (refuse b k) p = (cc, cc)
  same_next left e after d rest renew renew p = (refl, refl)

  -- the log of more requests
  record Made (log : List (Entry P)) (requests : List (Request P)) : Type 0 where
    pub more : List (Entry P)
    pub left : ℕ
    pub complete : Complete encoding source allowance (log ++ more) left
    pub asks : requests_of more ≡ requests

  some_more : (requests : List (Request P)) (log : List (Entry P)) (left : ℕ) → Complete encoding source allowance log left → Made log requests
  some_more [] log left h = record { more = []; left = left; complete = rw (append-nil log) h; asks = refl }
  some_more (request ∷ requests) log left h =
      let n = comes left request in
      let t = some_more requests (log ++ n.entry ∷ []) n.after (goes_on log left n.entry n.after h n.next) in
      record {
        more = n.entry ∷ t.more;
        left = t.left;
        complete = rw append_assoc at t.complete;
        asks = ap (λ z. z ∷ requests_of t.more) n.asks ∙ ap (λ z. request ∷ z) t.asks;
      }

  -- logs of the same requests are the same, and so are the steps left
  same_log : (log : List (Entry P)) (left : ℕ) (other : List (Entry P)) (rest : ℕ) → Complete encoding source allowance log left → Complete encoding source allowance other rest
      → requests_of log ≡ requests_of other → (log ≡ other) × (left ≡ rest)
  same_log log left other rest (opens h) (opens k) p = (refl, refl)
  same_log log left other rest (opens h) (goes_on b l d q k n) p = absurd (none_more (requests_of b) d.request [] (p ∙ requests_more b d))
  same_log log left other rest (goes_on a j e o h i) (opens k) p = absurd (none_more (requests_of a) e.request [] (sym p ∙ requests_more a e))
  same_log log left other rest (goes_on a j e o h i) (goes_on b l d q k n) p =
      let ends = last_same (requests_of a) (requests_of b) e.request d.request (sym (requests_more a e) ∙ p ∙ requests_more b d) in
      let before = same_log a j b l h k ends.0 in
      let i' : Next encoding source allowance l e o = subst (λ z. Next encoding source allowance z e o) before.1 i in
      let last = same_next l e o d q i' n ends.1 in
      (ap (λ z. z ++ e ∷ []) before.0 ∙ ap (λ z. b ++ z ∷ []) last.0, last.1)

pub one_log : {P : Type 0} (encoding : Encoding P) (source : Source) → OneLog encoding source
one_log encoding source = record {
  some = λ allowance e requests. let t = some_more encoding source allowance requests [] allowance (opens e) in (t.more, t.left, t.complete, t.asks);
  same = λ allowance log other left rest h k p. (same_log encoding source allowance log left other rest h k p).0;
}
