-- Floor roots: every number has one and only one, and its binary digits come one by one from the quarter's.
use Rattle.std.proofs.Common.{◌≡◌, ℕ, zero, suc, ◌+◌, ◌*◌, ◌/◌, ◌^◌, ◌<◌, ◌≤◌, Bool, true, false, cond, leb, refl, lt_of_lt_of_le, mul-le-mul_right, div-mul-le_self, arith, leb-false, leb-true}
use native.Mathlib.Nat.{lt-div-mul-add, pow-le-pow_left}
use lib.Ieee.{size}
use lib.Ieee.Digits.{size-lt}
use Rattle.exact.specs.Root.{FloorRoot, root_by_digits, isqrt}
use Rattle.exact.proofs.Squares.{lt_of_squares}

pub root_unique : (n r s : ℕ) → FloorRoot n r → FloorRoot n s → r ≡ s
root_unique n r s a b =
    let p : r < s + 1 = lt_of_squares r (s + 1) (omega arith) in
    let q : s < r + 1 = lt_of_squares s (r + 1) (omega arith) in
    omega arith

next : (r n : ℕ) (b : Bool) → FloorRoot (n / 4) r → leb ((2 * r + 1) * (2 * r + 1)) n ≡ b → FloorRoot n (cond b (2 * r + 1) (2 * r))
next r n true h e = record { low = leb-true _ _ e; high = omega (arith, h.high) }
next r n false h e = record { low = omega (arith, h.low); high = leb-false _ _ e }

pub by_digits : (digits n : ℕ) → n < 4 ^ digits → FloorRoot n (root_by_digits digits n)
unfolding root_by_digits
by_digits zero n h = record { low = omega arith; high = omega arith }
by_digits (suc digits) n h = next (root_by_digits digits (n / 4)) n _ (by_digits digits (n / 4) (omega arith)) refl

pub isqrt_is : (n : ℕ) → FloorRoot n (isqrt n)
unfolding isqrt
isqrt_is n = by_digits (size n) n (lt_of_lt_of_le (size-lt n) (pow-le-pow_left {n = 2} (omega arith) (size n)))

pub is_isqrt : (n r : ℕ) → FloorRoot n r → r ≡ isqrt n
is_isqrt n r h = root_unique n r (isqrt n) h (isqrt_is n)

-- the floor root of a quotient bounds the dividend: it does not see what the division cuts off
pub root_of_quotient : (v m r : ℕ) → 0 < m → FloorRoot (v / m) r → (r * r * m ≤ v) × (v < (r + 1) * (r + 1) * m)
root_of_quotient v m r h f =
    let a : r * r * m ≤ v / m * m = mul-le-mul_right m f.low in
    let b : (v / m + 1) * m ≤ (r + 1) * (r + 1) * m = mul-le-mul_right m (omega (arith, f.high)) in
    omega (arith, a, b, div-mul-le_self v m, lt-div-mul-add {a = v} h)
