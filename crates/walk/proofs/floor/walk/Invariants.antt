use Rattle.std.proofs.Common.{◌≡◌, ◌*◌, ◌≤◌, pos, ◌+ℤ◌}
use Rattle.exact.specs.Root.{isqrt}
use Rattle.radicand.specs.Stands.{whole}
use Rattle.walk.specs.Walk.{distance}
use Rattle.walk.proofs.floor.walk.Given as goal

-- the residual is the radicand less the square of the guess, which is no farther from the root than the proposal
abbrev pub invariant-loop-place : goal.invariant-loop-place
invariant-loop-place l =
    (pos (l.place.guess * l.place.guess) +ℤ l.place.residual ≡ pos (whole l.hi l.lo))
    × (distance l.place.guess (isqrt (whole l.hi l.lo)) ≤ distance l.proposal (isqrt (whole l.hi l.lo)))

abbrev pub decreases-loop-place : goal.decreases-loop-place
decreases-loop-place l = distance l.place.guess (isqrt (whole l.hi l.lo))
