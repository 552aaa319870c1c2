-- What a posed root stands for.
use Rattle.std.specs.Prelude.{◌≡◌, List, [], ◌∷◌, ℕ, ◌+◌, ◌-◌, ◌*◌, ◌^◌, ◌≤◌, Float}
use Rattle.std.specs.Float.Ieee.{size}
use Rattle.head.specs.declared.word.Head.{Head}
use Rattle.head.specs.Head.{Heads, head_word, head_places}
use Rattle.head.specs.Bound.{NearRoot}
use Rattle.radicand.specs.declared.words.Radicand.{Radicand}
use Rattle.radicand.specs.Stands.{Stands}
use Rattle.sides.specs.declared.posed.Posed.{Posed}

-- the sum of the squares of sides
abbrev pub squares : List ℕ → ℕ
squares [] = 0
squares (u ∷ sides) = u * u + squares sides

-- the difference of two squares
abbrev pub squares_apart : ℕ → ℕ → ℕ
squares_apart x y = x * x - y * y

-- a head and a radicand in its scale, over a largest side of so many bits
abbrev pub posed_with : ℕ → Head → Radicand → Posed
posed_with bits head radicand = record { head = head; radicand = radicand; bits = bits }

-- for the radicand n over sides of which the largest is given, and its float radicand h, both before and after scaling by a
-- power of two that brings the largest side to [1, 2)
pub record Poses (h : Float) (n largest : ℕ) (p : Posed) : Type 0 where
  -- the word is the head of h, and so the computed one
  pub heads : Heads h p.head.word p.head.places
  pub word_is : head_word h ≡ p.head.word
  pub places_are : head_places h ≡ p.head.places
  pub places_least : 30 ≤ p.head.places
  pub places_most : p.head.places ≤ 57
  -- its root is at most four from that of the radicand
  pub near : NearRoot n (size largest - 1) p.head.word p.head.places
  -- the words hold four times the radicand, in the word's scale
  pub stands : Stands p.radicand (n * 4 ^ (23 + p.head.places)) (4 ^ (size largest - 1))
  pub sized : p.bits ≡ size largest
  pub some_bits : 1 ≤ p.bits
  pub few_bits : p.bits ≤ 4053
