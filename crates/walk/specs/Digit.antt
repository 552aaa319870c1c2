-- One more binary digit of a floor root.
use Rattle.std.specs.Prelude.{ℕ, ◌+◌, ◌*◌}

-- the radicand of a root and its residual, with two bits more
abbrev pub with_bits : ℕ → ℕ → ℕ → ℕ
with_bits root residual bits = 4 * (root * root + residual) + bits
