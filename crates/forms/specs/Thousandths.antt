-- Thousandths: a count of thousandths in 32-bit two's complement, with three patterns set apart.
use Rattle.std.specs.Prelude.{ℕ, ◌-◌, ◌^◌, true, false, cond, pos, ◌==◌, nat_lt}
use Rattle.forms.specs.declared.reading.Reading.{Reading}
use Rattle.forms.specs.declared.reading.Reading.TheVariants.{Finite, Infinite, QuietNan}
use Rattle.forms.specs.Encoding.{Encoding}

-- 0x7fff_ffff is over range, 0x8000_0001 under range, and 0x8000_0000 no reading at all
abbrev pub read_thousandths : ℕ → Reading
read_thousandths pattern =
    cond (nat_lt pattern 0x7fff_ffff) (Finite false pattern 0)
    (cond (pattern == 0x7fff_ffff) (Infinite false)
    (cond (pattern == 0x8000_0000) QuietNan
    (cond (pattern == 0x8000_0001) (Infinite true) (Finite true (2 ^ 32 - pattern) 0))))

abbrev pub thousandths : Encoding ℕ
thousandths = record {
  form = record { precision = 31; least = pos 0; span = 0; largest = 2 ^ 31 - 2 };
  reading = read_thousandths;
  written = λ k e. k;
  quiet_nan = 0x8000_0000;
  plus_infinity = 0x7fff_ffff;
}
