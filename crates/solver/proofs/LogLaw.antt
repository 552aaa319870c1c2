-- Every complete log keeps the law: by induction over the log, each entry is the next one of the complete log before it.
use Rattle.std.proofs.Common.{◌≡◌, ℕ, ◌+◌, ◌<◌, ◌≤◌, List, [], ◌∷◌, ◌++◌, None, refl, ap, ◌∙◌, subst, arith, Ok, Err}
use Rattle.std.proofs.lemmas.Bool.Decides.{nat_tests}
use Rattle.forms.specs.Encoding.{Encoding, Lawful}
use Rattle.sources.specs.Source.{Source, Sound}
use Rattle.lengths.specs.declared.call.Call.{Call}
use Rattle.lengths.specs.declared.call.Measured.{Measured}
use Rattle.lengths.specs.LengthOf.{length_of}
use Rattle.lengths.specs.Right.{RightLengths}
use Rattle.lengths.proofs.RightLengths.{right_lengths}
use Rattle.solver.specs.declared.refusal.CallRefusal.TheVariants.{TooFewSteps}
use Rattle.solver.specs.Reply.{Reply}
use Rattle.solver.specs.declared.log.Done.TheVariants.{Served, Renewed}
use Rattle.solver.specs.declared.log.Entry.{Entry}
use Rattle.solver.specs.Sealing.{reserve, sealing}
use Rattle.solver.specs.Log.{Next, Complete, length_entry, scan_entry}
use Rattle.solver.specs.Log.Next.{serve, refuse, renew}
use Rattle.solver.specs.Log.Complete.{opens, goes_on}
use Rattle.solver.specs.Law.{Law, counted_with, counted_from, counted, EveryLog}
use Rattle.solver.proofs.OnlyAnswer.{only_answer}
use Rattle.solver.proofs.Splits.{none_more, Cut, cut, Begin, begin}
use Rattle.solver.proofs.Splits.Cut.{last, earlier}
use Rattle.solver.proofs.Splits.Begin.{whole, part}

-- a sealing that was not refused had a grade of at most 7
pub sealed_grade : (source : Source) (allowance : ℕ) → sealing source allowance ≡ None → source.grade ≤ 7
sealed_grade source allowance e = grind (arith, nat_tests)

-- the counts with one entry more
counted_more : {P : Type 0} (sum : ℕ) (log : List (Entry P)) (entry : Entry P)
    → counted_from sum (log ++ entry ∷ []) ≡ counted_with (counted_from sum log) entry.request entry.reply
counted_more sum [] entry = refl
counted_more sum (x ∷ xs) entry = counted_more (counted_with sum x.request x.reply) xs entry

module _ {P : Type 0} (encoding : Encoding P) (source : Source) (allowance : ℕ) where
  abbrev Done : List (Entry P) → ℕ → Type 0
  Done log left = Complete encoding source allowance log left

  abbrev Comes : ℕ → Entry P → ℕ → Type 0
  Comes left entry after = Next encoding source allowance left entry after

  -- a sealing that was not refused opened the log
  pub sealed_once : (log : List (Entry P)) (left : ℕ) → Done log left → sealing source allowance ≡ None
  sealed_once log left (opens h) = h
  sealed_once log left (goes_on before k entry after h n) = sealed_once before k h

  -- an entry is the next one after a complete log
  record Stands (before : List (Entry P)) (entry : Entry P) : Type 0 where
    pub left : ℕ
    pub after : ℕ
    pub complete : Done before left
    pub next : Comes left entry after

  stands_last : (log before : List (Entry P)) (k after : ℕ) (x entry : Entry P) → Done log k → Comes k x after → log ≡ before → x ≡ entry → Stands before entry
  stands_last log before k after x entry h n p q = record {
    left = k;
    after = after;
    complete = subst (λ z. Done z k) p h;
    next = subst (λ z. Comes k z after) q n;
  }

  stands : (log : List (Entry P)) (left : ℕ) → Done log left → (before after : List (Entry P)) (entry : Entry P) → log ≡ before ++ entry ∷ after → Stands before entry
  stands log left (opens h) before after entry p = absurd (none_more before entry after p)
  stands log left (goes_on shorter k x rest h n) before after entry p =
      go (λ more q. stands shorter k h before more entry q) (cut shorter x before entry after p)
    where
      go : ((more : List (Entry P)) → shorter ≡ before ++ entry ∷ more → Stands before entry) → Cut shorter x before entry → Stands before entry
      go ih (last q r) = stands_last shorter before k rest x entry h n q r
      go ih (earlier more q) = ih more q

  -- every beginning of a complete log is a complete log
  record Begun (before : List (Entry P)) : Type 0 where
    pub left : ℕ
    pub complete : Done before left

  none_begun : (before after : List (Entry P)) → [] ≡ before ++ after → sealing source allowance ≡ None → Begun before
  none_begun [] after p h = record { left = allowance; complete = opens h }
  none_begun (b ∷ bs) after p h = absurd (none_more [] b (bs ++ after) p)

  begun : (log : List (Entry P)) (left : ℕ) → Done log left → (before after : List (Entry P)) → log ≡ before ++ after → Begun before
  begun log left (opens h) before after p = none_begun before after p h
  begun log left (goes_on shorter k x rest h n) before after p =
      go (λ more q. begun shorter k h before more q) (begin shorter x before after p)
    where
      go : ((more : List (Entry P)) → shorter ≡ before ++ more → Begun before) → Begin shorter x before → Begun before
      go ih (whole q) = record { left = rest; complete = subst (λ z. Done z rest) q (goes_on shorter k x rest h n) }
      go ih (part more q) = ih more q

  -- what the next entry can be
  next_served : (k : ℕ) (call : Call P) (measured : Measured P) (after : ℕ) → Comes k (length_entry call (Ok (Served measured))) after → measured ≡ length_of encoding source call
  next_served k call measured after (serve d h) = refl

  next_refused : (k : ℕ) (call : Call P) (reply : Reply P) (after : ℕ) → Comes k (length_entry call reply) after → k < reserve source → reply ≡ Err (TooFewSteps k)
  next_refused k call reply after (serve d h) few = absurd (omega arith)
  next_refused k call reply after (refuse d h) few = refl

  next_enough : (k : ℕ) (call : Call P) (reply : Reply P) (after : ℕ) → Comes k (length_entry call reply) after → reserve source ≤ k
      → (measured : Measured P) × (reply ≡ Ok (Served measured))
  next_enough k call reply after (serve d h) enough = (length_of encoding source d, refl)
  next_enough k call reply after (refuse d h) enough = absurd (omega arith)

  next_scan : (k after : ℕ) (reply : Reply P) → Comes k (scan_entry reply) after → reply ≡ Ok Renewed
  next_scan k after reply renew = refl

  module _ (right : RightLengths encoding source) where
    account_next : (sum k after : ℕ) (entry : Entry P) → Comes k entry after → sum + k ≡ allowance → counted_with sum entry.request entry.reply + after ≡ allowance
    account_next sum k after entry (serve d h) p = omega (arith, right.bounded d)
    account_next sum k after entry (refuse d h) p = p
    account_next sum k after entry renew p = omega arith

    account : (log : List (Entry P)) (left : ℕ) → Done log left → counted log + left ≡ allowance
    account log left (opens h) = omega arith
    account log left (goes_on before k entry after h n) =
        ap (λ z. z + after) (counted_more 0 before entry) ∙ account_next (counted before) k after entry n (account before k h)

    -- the entries tell the steps left
    left_told : (log : List (Entry P)) (left k : ℕ) → Done log left → counted log + k ≡ allowance → left ≡ k
    left_told log left k h p = omega (arith, account log left h)

    next_there : (log : List (Entry P)) (left : ℕ) → Done log left → (before after : List (Entry P)) (entry : Entry P) (k : ℕ) → log ≡ before ++ entry ∷ after → counted before + k ≡ allowance
        → (rest : ℕ) × Comes k entry rest
    next_there log left h before after entry k p q =
        let t = stands log left h before after entry p in
        (t.after, subst (λ z. Comes z entry t.after) (left_told before t.left k t.complete q) t.next)

    module _ (lawful : Lawful encoding) (log : List (Entry P)) (left : ℕ) (h : Done log left) where
      is_length : (before after : List (Entry P)) (call : Call P) (measured : Measured P) → log ≡ before ++ length_entry call (Ok (Served measured)) ∷ after
          → measured ≡ length_of encoding source call
      is_length before after call measured p =
          let t = stands log left h before after (length_entry call (Ok (Served measured))) p in next_served t.left call measured t.after t.next

      law : Law encoding source allowance log left
      law = record {
        answers = λ before after call measured p. rw (is_length before after call measured p) (right.answers call);
        one_pattern = λ before after call measured other p k. rw (is_length before after call measured p) (only_answer encoding lawful call (length_of encoding source call).pattern other (right.answers call) k);
        counts = λ before after call measured p. rw (is_length before after call measured p) (right.counts call);
        bounded = λ before after call measured p. rw (is_length before after call measured p) (right.bounded call);
        account = λ before after p. let b = begun log left h before after p in (b.left, b.complete, account before b.left b.complete);
        account_now = account log left h;
        refused = λ before after call reply k p q few. let n = next_there log left h before after (length_entry call reply) k p q in next_refused k call reply n.0 n.1 few;
        served = λ before after call reply k p q enough. let n = next_there log left h before after (length_entry call reply) k p q in next_enough k call reply n.0 n.1 enough;
        scans = λ before after reply p. let t = stands log left h before after (scan_entry reply) p in next_scan t.left t.after reply t.next;
      }

pub every_log : {P : Type 0} (encoding : Encoding P) (source : Source) → Lawful encoding → Sound source → EveryLog encoding source
every_log encoding source lawful sound allowance log left h = law encoding source allowance (right_lengths encoding source lawful sound) lawful log left h
