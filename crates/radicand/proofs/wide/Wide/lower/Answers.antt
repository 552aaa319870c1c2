use Rattle.std.proofs.Common.{sym, ◌∙◌, arith, eqb-true}
use borrow.Author.Tests.{eqb-false, not-true, not-false}
use Rattle.std.proofs.lemmas.Nat.{mod_below}
use Rattle.radicand.proofs.Shifts.{D_is, D_pos, over}
use Rattle.radicand.proofs.wide.Wide.lower.Goals as goal

pub returns : goal.returns
returns c = let w = c.args.self in record {
  rest = _;
  whole = over c.args.by c.requires w.high w.low w.part;
  short = omega (arith, D_is c.args.by c.requires, mod_below w.part _ (D_pos c.args.by c.requires));
  is_cut = λ h z. eqb-false _ 0 (not-true _ (sym c.has_rest.ensures ∙ h)) z;
  not_cut = λ h. eqb-true _ 0 (not-false _ (sym c.has_rest.ensures ∙ h));
}
