-- A list with one more element at its end, cut at a place: the place is the last one, or it stands in the list before.
use Rattle.std.proofs.Common.{◌≡◌, ℕ, List, [], ◌∷◌, ◌++◌, sym, refl, ap, ◌∙◌, arith}
use Rattle.std.proofs.lemmas.List.{append-nil}

-- the place is the last one, or stands in the list before
pub data Cut {A : Type 0} (xs : List A) (x : A) (before : List A) (e : A) : Type 0 where
  last : xs ≡ before → x ≡ e → Cut xs x before e
  earlier : (rest : List A) → xs ≡ before ++ e ∷ rest → Cut xs x before e

pub none_more : {A : Type 0} (bs : List A) (e : A) (after : List A) → [] ≡ bs ++ e ∷ after → ⊥
none_more [] e after p = let z : ◌≡◌ {A = ℕ} 0 1 = cc in omega (arith, z)
none_more (b ∷ bs) e after p = let z : ◌≡◌ {A = ℕ} 0 1 = cc in omega (arith, z)

head_same : {A : Type 0} (a b : A) (cs bs : List A) → a ∷ cs ≡ b ∷ bs → a ≡ b
head_same a b cs bs p = cc

tail_same : {A : Type 0} (a b : A) (cs bs : List A) → a ∷ cs ≡ b ∷ bs → cs ≡ bs
tail_same a b cs bs p = cc

cut_under : {A : Type 0} (y b x e : A) (ys bs : List A) → y ≡ b → Cut ys x bs e → Cut (y ∷ ys) x (b ∷ bs) e
cut_under y b x e ys bs p (last q r) = last (cc) r
cut_under y b x e ys bs p (earlier rest q) = earlier rest (cc)

pub cut : {A : Type 0} (xs : List A) (x : A) (before : List A) (e : A) (after : List A) → xs ++ x ∷ [] ≡ before ++ e ∷ after → Cut xs x before e
cut [] x [] e after p = last refl (head_same x e [] after p)
cut [] x (b ∷ bs) e after p = absurd (none_more bs e after (tail_same x b [] (bs ++ e ∷ after) p))
cut (y ∷ ys) x [] e after p = earlier ys (ap (λ z. z ∷ ys) (head_same y e (ys ++ x ∷ []) after p))
cut (y ∷ ys) x (b ∷ bs) e after p =
    cut_under y b x e ys bs (head_same y b (ys ++ x ∷ []) (bs ++ e ∷ after) p) (cut ys x bs e after (tail_same y b (ys ++ x ∷ []) (bs ++ e ∷ after) p))

-- a beginning is the whole, or a beginning of the list before
pub data Begin {A : Type 0} (xs : List A) (x : A) (before : List A) : Type 0 where
  whole : xs ++ x ∷ [] ≡ before → Begin xs x before
  part : (rest : List A) → xs ≡ before ++ rest → Begin xs x before

pub begin : {A : Type 0} (xs : List A) (x : A) (before after : List A) → xs ++ x ∷ [] ≡ before ++ after → Begin xs x before
begin {A = A} xs x before after p = go after p
  where
    from_cut : (a : A) → Cut xs x before a → Begin xs x before
    from_cut a (last q r) = part [] (q ∙ sym (append-nil before))
    from_cut a (earlier rest q) = part (a ∷ rest) q

    go : (after : List A) → xs ++ x ∷ [] ≡ before ++ after → Begin xs x before
    go [] q = whole (q ∙ append-nil before)
    go (a ∷ more) q = from_cut a (cut xs x before a more q)
