-- A posed root: its proposal is near enough to walk from, its floor root is that of the exact radicand, and the bits that rounding
-- drops tell the exponent.
use Rattle.std.proofs.Common.{◌≡◌, ℕ, ◌+◌, ◌-◌, ◌*◌, ◌/◌, ◌%◌, ◌^◌, ◌<◌, ◌≤◌, sym, ap, ◌∙◌, subst, mul-le-mul_right, mod-lt, mul_assoc, div-add-mod', arith, pow-add}
use Rattle.std.proofs.Math.Nat.{div-eq_of_lt-le}
use lib.Ieee.{Float, size}
use lib.Ieee.Digits.{size-lt, size-le}
use Rattle.exact.specs.Root.{isqrt}
use Rattle.exact.proofs.Roots.{isqrt_is}
use Rattle.exact.proofs.Squares.{lt_of_squares, le_unless, two_le}
use Rattle.head.specs.Bound.{FloorRootOf}
use Rattle.radicand.specs.declared.words.Radicand.{Radicand}
use Rattle.radicand.specs.Stands.{radicand_floor}
use Rattle.walk.specs.Walk.{distance, Walkable}
use Rattle.walk.specs.Rounded.{longer_root, dropped_bits, Scaled}
use Rattle.sources.specs.Source.{Source, Word, Sound}
use Rattle.sides.specs.declared.posed.Posed.{Posed}
use Rattle.sides.specs.Poses.{Poses}
use Rattle.sides.proofs.Fractions.{floor_of}
use Rattle.lengths.specs.LengthOf.{floor_root_at, walk_count}

-- the whole part of a quarter
quarter_part : (x m f b : ℕ) → 0 < m → b < 4 → 4 * x / m ≡ 4 * f + b → x / m ≡ f
quarter_part x m f b p h e =
    let d : (4 * f + b) * m + 4 * x % m ≡ 4 * x = ap (λ (z : ℕ). z * m + 4 * x % m) (sym e) ∙ div-add-mod' (4 * x) m in
    let r : 4 * x % m < m = mod-lt (4 * x) p in
    let c : b * m ≤ 3 * m = mul-le-mul_right m (omega arith) in
    div-eq_of_lt-le m (omega (arith, d)) (omega (arith, d, r, c))

module _ (h : Float) (n largest : ℕ) (p : Posed) (poses : Poses h n largest p) where
  abbrev M : ℕ
  M = 4 ^ (size largest - 1)

  abbrev X : ℕ
  X = n * 4 ^ (22 + p.head.places)

  -- the words are the whole part of the radicand in the word's scale
  floor_is : X / M ≡ radicand_floor p.radicand
  floor_is =
      let s = poses.stands in
      let e : n * 4 ^ (23 + p.head.places) ≡ 4 * X =
      ap (λ (y : ℕ). n * y) (ap (λ (y : ℕ). 4 ^ y) {x = 23 + p.head.places} {y = 1 + (22 + p.head.places)} (omega arith) ∙ pow-add 4 1 (22 + p.head.places)) ∙ omega arith in
      quarter_part X M (radicand_floor p.radicand) p.radicand.bits s.positive s.bits_short (ap (λ (y : ℕ). y / M) (sym e) ∙ s.floor)

  pub root_is : isqrt (radicand_floor p.radicand) ≡ floor_root_at n largest p.head.places
  unfolding floor_root_at
  root_is = ap isqrt (sym floor_is)

  pub floor_root : FloorRootOf X M (isqrt (radicand_floor p.radicand))
  floor_root = subst (λ (y : ℕ). FloorRootOf X M (isqrt y)) floor_is (floor_of X M poses.stands.positive)

  pub word : Word p.head.word
  word = record { least = poses.heads.least; most = poses.heads.most }

  module _ (source : Source) (sound : Sound source) where
    -- a proposal is at most 2 ^ grade from the word's root, and that at most four from the floor root
    pub within : distance (source.proposal p.head.word) (isqrt (radicand_floor p.radicand)) ≤ 2 ^ source.grade + 4
    within =
        let s = isqrt (p.head.word * 2 ^ 44) in
        let a = sound.near p.head.word s word (isqrt_is (p.head.word * 2 ^ 44)) in
        let b = poses.near s (isqrt (radicand_floor p.radicand)) (isqrt_is (p.head.word * 2 ^ 44)) floor_root in
        omega (arith, a.above, a.below, b.above, b.below)

    pub walkable : source.grade ≤ 7 → Walkable p.radicand (source.proposal p.head.word)
    walkable c = record { least = sound.least p.head.word word; most = sound.most p.head.word word; near = omega (arith, within, two_le source.grade 7 c) }

    pub count_is : distance (source.proposal p.head.word) (isqrt (radicand_floor p.radicand)) ≡ walk_count source h n largest
    unfolding walk_count
    count_is =
        ap (distance (source.proposal p.head.word)) root_is
        ∙ (λ i. distance (source.proposal (sym poses.word_is i)) (floor_root_at n largest (sym poses.places_are i)))

-- The bits of the longer root of words that a proposal is near to.

module _ (r : Radicand) (g : ℕ) (w : Walkable r g) (short : r.bits < 4) where
  abbrev t : ℕ
  t = isqrt (radicand_floor r)

  abbrev long : ℕ
  long = longer_root r

  long_most : long < 2 ^ 56
  long_most =
      let f = isqrt_is (radicand_floor r) in
      let l = isqrt_is (4 * radicand_floor r + r.bits) in
      let a : long < 2 * (t + 1) = lt_of_squares long (2 * (t + 1)) (omega (arith, f.high, l.low)) in
      omega (arith, a, w.most, w.near)

  long_least : 2 ^ 53 ≤ long
  long_least =
      let f = isqrt_is (radicand_floor r) in
      let l = isqrt_is (4 * radicand_floor r + r.bits) in
      let a : 2 * t < long + 1 = lt_of_squares (2 * t) (long + 1) (omega (arith, f.low, l.high)) in
      omega (arith, a, w.least, w.near)

  module _ (precision least dropped : ℕ) (d : dropped ≡ dropped_bits precision least long) where
    pub dropped_most : least ≤ 81 → dropped ≤ 81
    dropped_most h = omega (arith, d, size-le long 56 long_most)

    pub dropped_least : least ≤ dropped
    dropped_least = omega (arith, d)

    pub dropped_some : precision ≤ 53 → 1 ≤ dropped
    dropped_some h =
        let s : 53 < size long = le_unless 54 (size long) (λ (k : size long < 54). let j : size long ≤ 53 = omega arith in omega (arith, long_least, size-lt long, two_le (size long) 53 j)) in
        omega (arith, d)

-- The exponent: places of the largest side, of the scale and of what is dropped.

module _ (h : Float) (n largest : ℕ) (p : Posed) (poses : Poses h n largest p) (dropped e : ℕ) (enough : 24 + p.head.places ≤ p.bits + dropped) (is : e ≡ p.bits + dropped - (24 + p.head.places)) where
  pub scaled_as : (dropped ≡ 24 + p.head.places - p.bits → e ≡ 0) → Scaled n e (n * 4 ^ (23 + p.head.places)) (4 ^ (size largest - 1)) dropped (24 + p.head.places - p.bits)
  scaled_as last =
      let b : p.bits ≡ size largest = poses.sized in
      let s : 1 ≤ p.bits = poses.some_bits in
      let q : dropped + (size largest - 1) ≡ 23 + p.head.places + e = omega arith in
      let f : 4 ^ dropped * 4 ^ (size largest - 1) ≡ 4 ^ (23 + p.head.places) * 4 ^ e = sym (pow-add 4 dropped (size largest - 1)) ∙ ap (λ (y : ℕ). 4 ^ y) q ∙ pow-add 4 (23 + p.head.places) e in
      record {
        scale = mul_assoc n (4 ^ dropped) (4 ^ (size largest - 1)) ∙ ap (λ (y : ℕ). n * y) f ∙ sym (mul_assoc n (4 ^ (23 + p.head.places)) (4 ^ e));
        least_exponent = last;
      }
