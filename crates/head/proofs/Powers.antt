-- Powers of four.
use Rattle.std.proofs.Common.{◌≡◌, ℕ, ◌+◌, ◌*◌, ◌^◌, ◌<◌, ◌≤◌, sym, ap, ◌∙◌, subst, le_trans, le_of_eq, arith, pow_pos, pow_mono, pow-add}
use Rattle.exact.proofs.Ulps.{four_is}

pub four_pos : (a : ℕ) → 0 < 4 ^ a
four_pos a = subst (λ (x : ℕ). 0 < x) (sym (four_is a)) (pow_pos (2 * a))

pub four_more : (a b : ℕ) → a < b → 4 * 4 ^ a ≤ 4 ^ b
four_more a b l =
    subst (λ (x : ℕ). 4 * 4 ^ a ≤ x) (sym (four_is b))
    (subst (λ (x : ℕ). 4 * x ≤ 2 ^ (2 * b)) (sym (four_is a))
    (le_trans (le_of_eq (sym (pow-add 2 2 (2 * a)))) (pow_mono {i = 2 + 2 * a} {j = 2 * b} (omega arith))))

-- as a square
pub four_square : (a : ℕ) → 4 ^ a ≡ 2 ^ a * 2 ^ a
four_square a = four_is a ∙ ap (λ (x : ℕ). 2 ^ x) {x = 2 * a} {y = a + a} (omega arith) ∙ pow-add 2 a a

pub four_scale : (d : ℕ) → 4 ^ (52 + d) ≡ 2 ^ 52 * 2 ^ d * (2 ^ 52 * 2 ^ d)
four_scale d = four_square (52 + d) ∙ (λ i. pow-add 2 52 d i * pow-add 2 52 d i)

pub four_scales : (d e : ℕ) → 4 ^ (52 + d + e) ≡ 2 ^ 52 * (2 ^ d * 2 ^ e) * (2 ^ 52 * (2 ^ d * 2 ^ e))
four_scales d e =
    let p : 2 ^ (52 + d + e) ≡ 2 ^ 52 * (2 ^ d * 2 ^ e) = ap (λ (x : ℕ). 2 ^ x) {x = 52 + d + e} {y = 52 + (d + e)} (omega arith) ∙ pow-add 2 52 (d + e) ∙ ap (λ (x : ℕ). 2 ^ 52 * x) (pow-add 2 d e) in
    four_square (52 + d + e) ∙ (λ i. p i * p i)

pub four_both : (d e : ℕ) → 4 ^ (d + e) ≡ 2 ^ d * 2 ^ e * (2 ^ d * 2 ^ e)
four_both d e = four_square (d + e) ∙ (λ i. pow-add 2 d e i * pow-add 2 d e i)
