-- Two sides are as three whose third has no length.
use Rattle.std.proofs.Common.{◌≡◌, ℕ, false, [], ◌∷◌, None, arith, subst}
use Rattle.std.proofs.lemmas.Grind.{common_steps}
use Rattle.exact.specs.declared.form.Form.{Form}
use Rattle.exact.specs.Value.{Value, InRange}
use Rattle.forms.specs.declared.reading.Reading.{Reading}
use Rattle.forms.specs.declared.reading.Reading.TheVariants.{Finite}
use Rattle.forms.specs.Encoding.{Encoding}
use Rattle.lengths.specs.Asked.{sum_of, largest, head_of}
use Rattle.lengths.specs.Plain.{plain_root}
use Rattle.lengths.specs.Finite.{OfForm}
use Rattle.lengths.proofs.Finites.{zero_value}

abbrev pub nothing : Reading
nothing = Finite false 0 0

pub nothing_of_form : (form : Form) → InRange form → OfForm form nothing
nothing_of_form form ok n k e is =
    let a : 0 ≡ k = cc in
    let b : 0 ≡ e = cc in
    subst (Value form k) b (subst (λ (j : ℕ). Value form j 0) a (zero_value form ok))

module _ {P : Type 0} (encoding : Encoding P) (x y : Reading) where
  pub same_plain : plain_root encoding (sum_of (x ∷ y ∷ nothing ∷ [])) ≡ plain_root encoding (sum_of (x ∷ y ∷ []))
  same_plain = grind (arith, common_steps)

  pub same_largest : largest (sum_of (x ∷ y ∷ nothing ∷ [])) ≡ largest (sum_of (x ∷ y ∷ []))
  same_largest = grind (arith, common_steps)

  pub same_head : plain_root encoding (sum_of (x ∷ y ∷ [])) ≡ None → head_of (sum_of (x ∷ y ∷ nothing ∷ [])) ≡ head_of (sum_of (x ∷ y ∷ []))
  same_head e = grind (arith, common_steps)
