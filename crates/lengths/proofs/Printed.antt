-- What is printed of patterns, where their numbers are known.
use Rattle.std.proofs.Common.{ℕ, false, List, Option, Some, None, ◌≡◌}
use Rattle.std.specs.Option.{IfSome}
use Rattle.std.specs.Prelude.{Result, option_map, codes}
use Rattle.std.specs.declared.fmt.Error.{Error}
use Rattle.std.specs.declared.fmt.Formatter.{Formatter}
use Rattle.std.specs.Fmt.{digits, ◌++?◌, DisplaysOnOk}

-- the digits of a number
abbrev spelt : Option ℕ → Option (List ℕ)
spelt = option_map (digits 16 false)

-- where the number is known, its digits are what is written
abbrev Written : Option ℕ → Option (List ℕ) → Type 0
Written number text = IfSome number (λ n. text ≡ Some (digits 16 false n))

-- a name with the digits of two numbers or of three
module _ {W : Type 0} (took : W → List ℕ → W → Type 0) (f : Formatter W) (r : Result (Unit {0}) Error) (g : Formatter W) (name : List ℕ) where
  pub two : (k m : Option ℕ) (a b : Option (List ℕ)) → Written k a → Written m b
      → DisplaysOnOk took f r (Some name ++? a ++? Some (codes " ") ++? b) g
      → DisplaysOnOk took f r (Some name ++? spelt k ++? Some (codes " ") ++? spelt m) g
  two None m a b p q w = tt
  two (Some k) None a b p q w = tt
  two (Some k) (Some m) a b p q w = rw (p, q) at w

  pub three : (k m n : Option ℕ) (a b c : Option (List ℕ)) → Written k a → Written m b → Written n c
      → DisplaysOnOk took f r (Some name ++? a ++? Some (codes " ") ++? b ++? Some (codes " ") ++? c) g
      → DisplaysOnOk took f r (Some name ++? spelt k ++? Some (codes " ") ++? spelt m ++? Some (codes " ") ++? spelt n) g
  three None m n a b c p q s w = tt
  three (Some k) None n a b c p q s w = tt
  three (Some k) (Some m) None a b c p q s w = tt
  three (Some k) (Some m) (Some n) a b c p q s w = rw (p, q, s) at w
