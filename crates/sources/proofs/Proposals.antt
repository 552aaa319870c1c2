-- What a sound source proposes: a word that has a proposal is no less than 2 ^ 62, and the proposal has 54 bits.
use Rattle.std.proofs.Common.{◌≡◌, ℕ, ◌^◌, ◌<◌, ◌≤◌, Some, arith}
use Rattle.std.proofs.lemmas.Bool.Decides.{nat_tests}
use Rattle.sources.specs.Source.{Word, Source, Sound, proposed}

module _ (source : Source) (sound : Sound source) (w p : ℕ) (W : w < 2 ^ 64) (h : Some p ≡ proposed source w) where
  proposed_word : 2 ^ 62 ≤ w
  proposed_word = grind (arith, nat_tests)

  proposal_is : p ≡ source.proposal w
  proposal_is = grind (arith, nat_tests)

  word : Word w
  word = record { least = proposed_word; most = W }

  pub proposal_fits : (2 ^ 62 ≤ w) × (2 ^ 53 ≤ p) × (p < 2 ^ 54)
  proposal_fits = (proposed_word, omega (arith, proposal_is, sound.least w word), omega (arith, proposal_is, sound.most w word))
