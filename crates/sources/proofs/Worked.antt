-- The worked proposals, each by computation.
use Rattle.std.proofs.Common.{◌*◌, ◌^◌, refl}
use lib.Ieee.{size}
use Rattle.exact.specs.Root.{root_by_digits, isqrt}
use Rattle.exact.proofs.Roots.{isqrt_is}
use Rattle.sources.specs.Refined.{repeated}
use Rattle.sources.specs.Examples.{WorkedProposals, ProposesRoot}

pub proposes_root : ProposesRoot
proposes_root w = isqrt_is (w * 2 ^ 44)

pub worked : WorkedProposals
unfolding isqrt root_by_digits size repeated
worked = record {
  least = refl;
  middle = refl;
  most = refl;
  below = refl;
  table_least = refl;
  table_most = refl;
  two_steps = refl;
  three_steps = refl;
  one_step = refl;
  two_steps_back = refl;
  kept = refl;
  refusal = refl;
}
