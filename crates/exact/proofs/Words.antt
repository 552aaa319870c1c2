-- The length of a radicand of one word, as the code computes it.
use Rattle.std.proofs.Common.{◌≡◌, ℕ, ◌+◌, ◌-◌, ◌*◌, ◌/◌, ◌%◌, ◌^◌, ◌<◌, ◌≤◌, eqb, ◌⊎◌, sym, ap, ◌∙◌, subst, inl, inr, lt_of_lt_of_le, lt_of_le_of_lt, mod-eq_of_lt, arith, pow_pos, pow-add, eqb-true}
use lib.Count.{count_leading_zeros}
use Rattle.std.proofs.lemmas.Nat.{one_shl}
use borrow.Author.Tests.{eqb-false}
use Rattle.exact.specs.Length.{Ulp, NearestWhole, Length, kept, carried, half_to_even, rounded_root}
use Rattle.exact.proofs.Squares.{two_le}
use Rattle.exact.proofs.Roots.{root_of_quotient}
use Rattle.exact.proofs.Rounding.{rounded_by, rounded_root_is}
use Rattle.exact.proofs.Ulps.{four_is, significand_most}
use Rattle.exact.proofs.Bits.{bits_are, ulp_by_bits}

-- the floor root of n / 4 ^ (e - 1) is the floor of twice the root in units of 2 ^ e
module _ (n e t : ℕ) (E : 1 ≤ e) (word : n < 2 ^ 64) (low : t * t ≤ n / 2 ^ (2 * (e - 1))) (high : n / 2 ^ (2 * (e - 1)) < (t + 1) * (t + 1)) where
  abbrev unit : ℕ
  unit = 2 ^ (2 * (e - 1))

  bounds : (t * t * unit ≤ n) × (n < (t + 1) * (t + 1) * unit)
  bounds = root_of_quotient n unit t (pow_pos (2 * (e - 1))) (record { low = low; high = high })

  four_units : 4 ^ e ≡ 4 * unit
  four_units = four_is e ∙ ap (λ (x : ℕ). 2 ^ x) {y = 2 + 2 * (e - 1)} (omega arith) ∙ pow-add 2 2 (2 * (e - 1))

  no_wrap : t * t * unit % 2 ^ 64 ≡ t * t * unit
  no_wrap = mod-eq_of_lt (lt_of_le_of_lt bounds.0 word)

  pub shifted_round : half_to_even t (eqb (t * t * unit % 2 ^ 64) n) ≡ rounded_root n e
  shifted_round =
      let scale : (a : ℕ) → a * 4 ^ e ≡ 4 * (a * unit) = λ a. ap (λ (x : ℕ). a * x) four_units ∙ omega arith in
      rounded_by n e t (eqb (t * t * unit % 2 ^ 64) n)
      (omega (arith, scale (t * t), bounds.0))
      (omega (arith, scale ((t + 1) * (t + 1)), bounds.1))
      (λ q. omega (arith, scale (t * t), no_wrap, eqb-true _ _ q))
      (λ q h. eqb-false _ _ q (omega (arith, scale (t * t), no_wrap, h)))

module _ (p n c e k : ℕ) (word : n < 2 ^ 64) (ceil : c ≡ (64 - count_leading_zeros 64 n + 1) / 2) (exponent : e ≡ c - p) (rounds : k ≡ rounded_root n e) where
  ulp : Ulp p n e
  ulp = subst (Ulp p n) (ap (λ (x : ℕ). x - p) (sym ceil) ∙ sym exponent) (ulp_by_bits p n (64 - count_leading_zeros 64 n) (bits_are n word))

  nearest : NearestWhole n e k
  nearest = subst (NearestWhole n e) (sym rounds) (rounded_root_is n e)

  pub carried_length : (h : ℕ) → 1 ≤ p → p < 64 → k ≡ 1 * 2 ^ p % 2 ^ 64 → h ≡ p - 1 → Length p n (1 * 2 ^ h % 2 ^ 64) (e + 1)
  carried_length h some P q half =
      let s : 1 * 2 ^ h % 2 ^ 64 ≡ 2 ^ (p - 1) = one_shl h 64 (omega arith) ∙ ap (λ (x : ℕ). 2 ^ x) half in
      subst (λ (x : ℕ). Length p n x (e + 1)) (sym s) (carried some ulp (subst (NearestWhole n e) (q ∙ one_shl p 64 P) nearest))

  pub kept_length : k < 2 ^ 64 → ((p < 64) × (k ≡ 1 * 2 ^ p % 2 ^ 64 → ⊥)) ⊎ (64 ≤ p) → Length p n k e
  kept_length small (inl (P, other)) =
      let d : k ≡ 2 ^ p → ⊥ = λ q. other (q ∙ sym (one_shl p 64 P)) in
      kept ulp nearest (omega (arith, significand_most p n e ulp k nearest))
  kept_length small (inr P) = kept ulp nearest (lt_of_lt_of_le small (two_le 64 p P))
