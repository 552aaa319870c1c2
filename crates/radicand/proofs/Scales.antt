-- Powers of two and four between the limbs, the scale of a head, and the places of a side.
use Rattle.std.proofs.Common.{◌≡◌, ℕ, ◌+◌, ◌-◌, ◌*◌, ◌^◌, ◌≤◌, sym, ap, ◌∙◌, arith, pow-add}
use Rattle.exact.proofs.Ulps.{four_is}

-- the scale of a head and the units that are one in it
pub scale : (places : ℕ) → places ≤ 57 → 4 ^ (23 + places) * 2 ^ (114 - 2 * places) ≡ 2 ^ 160
scale p P =
    ap (λ (x : ℕ). x * 2 ^ (114 - 2 * p)) (four_is (23 + p))
    ∙ sym (pow-add 2 (2 * (23 + p)) (114 - 2 * p))
    ∙ ap (λ (x : ℕ). 2 ^ x) {x = 2 * (23 + p) + (114 - 2 * p)} {y = 160} (omega arith)

-- three cuts, of a, b and c places
pub three_cuts : (a b c p : ℕ) → a + b + c ≡ p → 2 ^ (2 * a) * 2 ^ (2 * b) * 2 ^ (2 * c) ≡ 4 ^ p
three_cuts a b c p e =
    ap (λ (x : ℕ). x * 2 ^ (2 * c)) (sym (pow-add 2 (2 * a) (2 * b)))
    ∙ sym (pow-add 2 (2 * a + 2 * b) (2 * c))
    ∙ ap (λ (x : ℕ). 2 ^ x) {x = 2 * a + 2 * b + 2 * c} {y = 2 * p} (omega arith)
    ∙ sym (four_is p)
