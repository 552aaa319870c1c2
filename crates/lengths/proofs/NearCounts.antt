-- A count is the distance from the proposal for the one head word to the floor root, and at most 2 ^ grade + 4.
use Rattle.std.proofs.Common.{◌≡◌, ℕ, ◌+◌, ◌-◌, ◌*◌, ◌^◌, ◌≤◌, arith}
use lib.Ieee.{Float, size}
use Rattle.exact.specs.Root.{isqrt}
use Rattle.exact.proofs.Roots.{isqrt_is}
use Rattle.exact.proofs.Squares.{four_pos}
use Rattle.head.specs.Bound.{FloorRootOf}
use Rattle.head.proofs.ComputedHeads.{head_computed}
use Rattle.walk.specs.Walk.{distance}
use Rattle.sources.specs.Source.{Source, Sound}
use Rattle.sides.proofs.Fractions.{floor_of}
use Rattle.sides.proofs.NearHeads.{NearHead}
use Rattle.lengths.specs.Asked.{Asked, radicand, largest, head_of}
use Rattle.lengths.specs.LengthOf.{floor_root_at, walk_count}
use Rattle.lengths.specs.Right.{Walked}

module _ (source : Source) (h : Float) (n top : ℕ) (k : NearHead h n top) where
  abbrev root : ℕ
  root = floor_root_at n top k.places

  root_floor : FloorRootOf (n * 4 ^ (22 + k.places)) (4 ^ (size top - 1)) root
  unfolding floor_root_at
  root_floor = floor_of (n * 4 ^ (22 + k.places)) (4 ^ (size top - 1)) (four_pos (size top - 1))

  count_is : walk_count source h n top ≡ distance (source.proposal k.word) root
  unfolding walk_count
  count_is = let c = head_computed h k.word k.places k.fit k.heads in λ i. distance (source.proposal (c.0 i)) (floor_root_at n top (c.1 i))

  pub count_bounded : Sound source → walk_count source h n top ≤ 2 ^ source.grade + 4
  count_bounded sound =
      let s = isqrt (k.word * 2 ^ 44) in
      let S = isqrt_is (k.word * 2 ^ 44) in
      let a = sound.near k.word s (record { least = k.heads.least; most = k.heads.most }) S in
      let b = k.near s root S root_floor in
      omega (arith, count_is, a.above, a.below, b.above, b.below)

pub count_walked : (source : Source) (a : Asked) → NearHead (head_of a) (radicand a) (largest a) → Walked source a (walk_count source (head_of a) (radicand a) (largest a))
count_walked source a k = record {
  word = k.word;
  places = k.places;
  root = root source (head_of a) (radicand a) (largest a) k;
  heads = k.heads;
  floor = root_floor source (head_of a) (radicand a) (largest a) k;
  walked = count_is source (head_of a) (radicand a) (largest a) k;
}
