-- Three limbs over a power of two: each limb is cut in two, and the lower piece goes to the next one.
use Rattle.std.proofs.Common.{◌≡◌, ℕ, ◌+◌, ◌-◌, ◌*◌, ◌/◌, ◌%◌, ◌^◌, ◌<◌, ◌≤◌, sym, ap, ◌∙◌, mul-le-mul_right, div-add-mod', arith, pow_pos, pow-add}
use Rattle.std.proofs.lemmas.Nat.{one_shl, mod_below, div_below}
use Rattle.radicand.specs.Limbs.{three}

module _ (k : ℕ) (K : k ≤ 56) where
  abbrev D : ℕ
  D = (1 * 2 ^ k) % 2 ^ 64

  abbrev U : ℕ
  U = (1 * 2 ^ (56 - k)) % 2 ^ 64

  pub D_is : D ≡ 2 ^ k
  D_is = one_shl k 64 (omega arith)

  U_is : U ≡ 2 ^ (56 - k)
  U_is = one_shl (56 - k) 64 (omega arith)

  DU : D * U ≡ 2 ^ 56
  DU = (λ i. D_is i * U_is i) ∙ sym (pow-add 2 k (56 - k)) ∙ ap (λ (x : ℕ). 2 ^ x) {x = k + (56 - k)} {y = 56} (omega arith)

  pub D_pos : 0 < D
  D_pos = omega (arith, D_is, pow_pos k)

  -- a limb made of the lower piece of one and the upper piece of the next
  pub limb : (x y : ℕ) → y < 2 ^ 56 → x % D * U + y / D < 2 ^ 56
  limb x y Y =
      let a : x % D < D = mod_below x D D_pos in
      let b : (x % D + 1) * U ≤ D * U = mul-le-mul_right U (omega arith) in
      let c : y / D < U = div_below y D U D_pos (omega (arith, DU)) in
      omega (arith, b, c, DU)

  pub over : (h l q : ℕ) → three h l q ≡ three (h / D) (h % D * U + l / D) (l % D * U + q / D) * 2 ^ k + q % D
  over h l q =
      let a = div-add-mod' h D in
      let b = div-add-mod' l D in
      let c = div-add-mod' q D in
      let x : h % D * (D * U) ≡ h % D * 2 ^ 56 = ap (λ (z : ℕ). h % D * z) DU in
      let y : l % D * (D * U) ≡ l % D * 2 ^ 56 = ap (λ (z : ℕ). l % D * z) DU in
      let n = three (h / D) (h % D * U + l / D) (l % D * U + q / D) in
      let e : three h l q ≡ n * D + q % D = omega (arith, a, b, c, x, y) in
      e ∙ ap (λ (z : ℕ). n * z + q % D) D_is
