-- The whole way: the longer root has 54 to 56 bits, so at a precision of at most 53 at least one is dropped; the
-- nearest choice is the length, or with one bit too many carries to the next exponent.
use Rattle.std.proofs.Common.{◌≡◌, ℕ, ◌+◌, ◌-◌, ◌*◌, ◌/◌, ◌%◌, ◌^◌, ◌<◌, ◌≤◌, max, Bool, true, false, cond, not, ◌&&◌, eqb, ◌⊎◌, sym, refl, ap, ◌∙◌, subst, inl, inr, le_antisymm, arith, eqb-true}
use lib.Count.{count_leading_zeros}
use lib.Ieee.{size}
use lib.Ieee.Digits.{size-lt, size-le}
use borrow.Author.Tests.{eqb-false}
use Rattle.std.proofs.lemmas.Nat.{one_shl}
use Rattle.exact.specs.Root.{FloorRoot, isqrt}
use Rattle.exact.specs.Length.{Ulp, NearestWhole, Length, kept, carried}
use Rattle.exact.proofs.Squares.{lt_of_squares, lt_or_le, two_half}
use Rattle.exact.proofs.Roots.{isqrt_is, is_isqrt}
use Rattle.exact.proofs.Ulps.{significand_most}
use Rattle.exact.proofs.Bits.{HasBits, bits_are, bits_most, bits_least, short_of}
use Rattle.radicand.specs.declared.words.Radicand.{Radicand}
use Rattle.radicand.specs.Stands.{radicand_floor, Stands}
use Rattle.walk.specs.declared.digit.Rooted.{Rooted}
use Rattle.walk.specs.declared.location.Location.{Location}
use Rattle.walk.specs.Walk.{distance, walk_limit, Walkable}
use Rattle.walk.specs.Digit.{with_bits}
use Rattle.walk.specs.Location.{FloorToPlaces, Located, nearest_choice}
use Rattle.walk.specs.Rounded.{longer_root, dropped_bits, after_carry, Scaled}
use Rattle.walk.proofs.NearestChoice.{choice_is_nearest}
use Rattle.walk.proofs.Scales.{floor_to_places, ulp_from}

-- the residual of a floor root
pub residual_small : (n r d : ℕ) → r ≡ isqrt n → r * r + d ≡ n → d ≤ 2 * r
residual_small n r d e s = omega (arith, (subst (FloorRoot n) (sym e) (isqrt_is n)).high)

-- the longer root near a proposal of 54 bits
pub record Longer (radicand : Radicand) (t q : ℕ) : Type 0 where
  pub square : t * t + q ≡ 4 * radicand_floor radicand + radicand.bits
  pub small : q ≤ 2 * t
  pub least : 2 ^ 53 ≤ t
  pub most : t < 2 ^ 56

-- with one digit more the floor root doubles, so it has 54 to 56 bits
pub longer : (radicand : Radicand) (p : ℕ) (w t : Rooted) → Walkable radicand p → radicand.bits < 4
    → w.root ≡ isqrt (radicand_floor radicand) → w.root * w.root + w.residual ≡ radicand_floor radicand
    → t.root * t.root + t.residual ≡ with_bits w.root w.residual radicand.bits → Longer radicand t.root t.residual
longer radicand p w t start bits root residual next =
    let r = w.root in
    let small : t.residual ≤ 2 * t.root = t.floor in
    let s : w.residual ≤ 2 * r = w.floor in
    let l : 2 * r < t.root + 1 = lt_of_squares (2 * r) (t.root + 1) (omega arith) in
    let m : t.root < 2 * r + 2 = lt_of_squares t.root (2 * r + 2) (omega arith) in
    let near : distance p r ≤ walk_limit = subst (λ (x : ℕ). distance p x ≤ walk_limit) (sym root) start.near in
    record { square = omega arith; small = small; least = omega arith; most = omega arith }

-- the bits of a root, as the code counts them
abbrev bits : ℕ → ℕ
bits t = 64 - count_leading_zeros 64 t

module _ (radicand : Radicand) (t q : ℕ) (long : Longer radicand t q) where
  pub longer_is : t ≡ longer_root radicand
  longer_is = is_isqrt (4 * radicand_floor radicand + radicand.bits) t (record { low = omega (arith, long.square); high = omega (arith, long.square, long.small) })

  has_bits : HasBits t (bits t)
  has_bits = bits_are t (omega (arith, long.most))

  bits_54 : 54 ≤ bits t
  bits_54 = let h : max 54 1 ≤ bits t = bits_least t (bits t) has_bits 54 long.least in omega arith

  bits_size : bits t ≡ size t
  bits_size = le_antisymm (bits_most t (bits t) has_bits (size t) (size-lt t)) (size-le t (bits t) has_bits.most)

  module _ (p least d : ℕ) (short : p ≤ 53) (drops : d ≡ max (bits t - p) least) where
    pub drops_one : 1 ≤ d
    drops_one = omega (arith, bits_54)

    pub drops_are : d ≡ dropped_bits p least (longer_root radicand)
    drops_are = drops ∙ ap (λ (b : ℕ). max (b - p) least) (bits_size ∙ ap size longer_is)

    -- what is left has at most p bits
    fits : t < 2 ^ (p + d)
    fits = short_of t (bits t) has_bits (p + d) (omega arith)

    -- and all p, unless more were dropped for the least exponent
    full : (e : ℕ) → (d ≡ least → e ≡ 0) → (e ≡ 0) ⊎ (2 ^ (p + d) ≤ 2 * t)
    full e z =
        elim (lt_or_le least (bits t - p)) [
          | inl g ↦
              let o : p + d ≡ bits t = omega (arith, bits_54) in
              inr (omega (arith, ap (λ (x : ℕ). 2 ^ x) o, has_bits.least, two_half (bits t) (omega (arith, bits_54))))
          | inr g ↦ inl (z (omega arith))
        ]

    ulp : (n e : ℕ) (exact : Bool) → FloorToPlaces n e d t exact → (d ≡ least → e ≡ 0) → Ulp p n e
    ulp n e exact f z = ulp_from p n e d t exact f fits (full e z)

-- the limit that the code takes, and its half
module _ (p : ℕ) (one : 1 ≤ p) (short : p ≤ 53) where
  limit_is : 1 * 2 ^ p % 2 ^ 64 ≡ 2 ^ p
  limit_is = one_shl p 64 (omega arith)

  half_limit : 1 * 2 ^ p % 2 ^ 64 / 2 ≡ 2 ^ (p - 1)
  half_limit = omega (arith, limit_is, two_half p one)

  length_by : (n e k : ℕ) (b : Bool) → Ulp p n e → NearestWhole n e k → eqb k (1 * 2 ^ p % 2 ^ 64) ≡ b
      → Length p n (cond b (1 * 2 ^ p % 2 ^ 64 / 2) k) (after_carry b e)
  length_by n e k true u h q = subst (λ (x : ℕ). Length p n x (e + 1)) (sym half_limit) (carried one u (subst (NearestWhole n e) (eqb-true k _ q ∙ limit_is) h))
  length_by n e k false u h q =
      let d : k ≡ 2 ^ p → ⊥ = λ s. eqb-false k _ q (s ∙ sym limit_is) in
      kept u h (omega (arith, significand_most p n e u k h))

-- the steps of the code, joined
pub rounds_to : (radicand : Radicand) (t q p least d k s : ℕ) (exact up : Bool) (l : Location) → Longer radicand t q → 1 ≤ p → p ≤ 53
    → d ≡ max (bits t - p) least → exact ≡ (eqb q 0 && not radicand.cut) → ((n e : ℕ) → FloorToPlaces n e d t exact → Located n e l)
    → k ≡ nearest_choice l → s ≡ cond (eqb k (1 * 2 ^ p % 2 ^ 64)) (1 * 2 ^ p % 2 ^ 64 / 2) k → up ≡ eqb k (1 * 2 ^ p % 2 ^ 64)
    → (n e v m : ℕ) → Stands radicand v m → Scaled n e v m d least → Length p n s (after_carry up e)
rounds_to radicand t q p least d k s exact up l long one short drops test lies choice half at_limit n e v m stands scaled =
    let f = floor_to_places radicand n e d v m t q exact stands scaled.scale long.square long.small test in
    let u = ulp radicand t q long p least d short drops n e exact f scaled.least_exponent in
    let h = subst (NearestWhole n e) (sym choice) (choice_is_nearest n e l (lies n e f)) in
    rw (half, at_limit) (length_by p one short n e k _ u h refl)
