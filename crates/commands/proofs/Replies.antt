-- The parts of an answer's line, pushed one after another, all fit: nothing is cut.
use Rattle.std.proofs.Common.{◌≡◌, ℕ, ◌^◌, ◌<◌, ◌≤◌, List, [], ◌∷◌, ◌++◌, length, take, codes, decimal, ◌∙◌, arith, length-append}
use Rattle.std.proofs.lemmas.Fmt.{length-decimal-le}
use Rattle.std.proofs.lemmas.List.{take_all}
use Rattle.commands.specs.Fault.{layer_word}
use Rattle.commands.specs.Reply.{pattern_digits, reply_line, refusal_line}
use Rattle.commands.specs.declared.pattern.PatternBits.{PatternBits}
use Rattle.commands.specs.declared.pattern.PatternBits.TheVariants.{Bits64, Bits32}
use Rattle.commands.specs.declared.fault.Layer.{Layer}
use Rattle.commands.specs.declared.fault.Layer.TheVariants.{Text, Solver}
use Rattle.commands.specs.declared.reply.Reply.TheVariants.{Length}
use Rattle.commands.proofs.Cut.{pushed_onto}
use Rattle.commands.proofs.Spelling.{length_hex}

pattern_short : (pattern : PatternBits) → length (pattern_digits pattern) ≤ 16
pattern_short (Bits64 number) = omega (arith, length_hex 16 number)
pattern_short (Bits32 number) = omega (arith, length_hex 8 number)

word_short : (layer : Layer) → length (layer_word layer) ≤ 6
word_short Text = omega arith
word_short Solver = omega arith

decimal_short : (n : ℕ) → n < 2 ^ 64 → length (decimal n) ≤ 20
decimal_short n fits = length-decimal-le 20 n (omega arith) (omega arith) fits

length_short : (pattern : PatternBits) (count : ℕ) → count < 2 ^ 64 → length (reply_line (Length pattern count)) ≤ 81
length_short pattern count fits = simp length-append (omega (arith, pattern_short pattern, decimal_short count fits))

pub told_length : (pattern : PatternBits) (count : ℕ) {k₀ k₁ k₂ k₃ k₄ k₅ : List ℕ} → count < 2 ^ 64
    → k₀ ≡ [] → k₁ ≡ take 81 (k₀ ++ codes "= ") → k₂ ≡ take 81 (k₁ ++ pattern_digits pattern) → k₃ ≡ take 81 (k₂ ++ codes " ") → k₄ ≡ take 81 (k₃ ++ decimal count) → k₅ ≡ take 81 (k₄ ++ 10 ∷ [])
    → k₅ ≡ reply_line (Length pattern count)
told_length pattern count fits h₀ h₁ h₂ h₃ h₄ h₅ =
    let t₁ = codes "= " in
    let t₂ = t₁ ++ pattern_digits pattern in
    let t₃ = t₂ ++ codes " " in
    let e₁ = pushed_onto [] t₁ h₀ h₁ in
    let e₂ = pushed_onto t₁ (pattern_digits pattern) e₁ h₂ in
    let e₃ = pushed_onto t₂ (codes " ") e₂ h₃ in
    let e₄ = pushed_onto t₃ (decimal count) e₃ h₄ in
    pushed_onto (t₃ ++ decimal count) (10 ∷ []) e₄ h₅ ∙ take_all 81 (reply_line (Length pattern count)) (length_short pattern count fits)

refusal_short : (number : ℕ) (layer : Layer) (place : ℕ) → number < 2 ^ 32 → place < 2 ^ 64 → length (refusal_line number layer place) ≤ 81
refusal_short number layer place small fits = simp length-append (omega (arith, decimal_short number (omega arith), word_short layer, decimal_short place fits))

pub told_refusal : (number : ℕ) (layer : Layer) (place : ℕ) {k₀ k₁ k₂ k₃ k₄ k₅ k₆ k₇ : List ℕ} → number < 2 ^ 32 → place < 2 ^ 64
    → k₀ ≡ [] → k₁ ≡ take 81 (k₀ ++ codes "! ") → k₂ ≡ take 81 (k₁ ++ decimal number) → k₃ ≡ take 81 (k₂ ++ codes " ") → k₄ ≡ take 81 (k₃ ++ layer_word layer)
    → k₅ ≡ take 81 (k₄ ++ codes " ") → k₆ ≡ take 81 (k₅ ++ decimal place) → k₇ ≡ take 81 (k₆ ++ 10 ∷ [])
    → k₇ ≡ refusal_line number layer place
told_refusal number layer place small fits h₀ h₁ h₂ h₃ h₄ h₅ h₆ h₇ =
    let t₁ = codes "! " in
    let t₂ = t₁ ++ decimal number in
    let t₃ = t₂ ++ codes " " in
    let t₄ = t₃ ++ layer_word layer in
    let t₅ = t₄ ++ codes " " in
    let e₁ = pushed_onto [] t₁ h₀ h₁ in
    let e₂ = pushed_onto t₁ (decimal number) e₁ h₂ in
    let e₃ = pushed_onto t₂ (codes " ") e₂ h₃ in
    let e₄ = pushed_onto t₃ (layer_word layer) e₃ h₄ in
    let e₅ = pushed_onto t₄ (codes " ") e₄ h₅ in
    let e₆ = pushed_onto t₅ (decimal place) e₅ h₆ in
    pushed_onto (t₅ ++ decimal place) (10 ∷ []) e₆ h₇ ∙ take_all 81 (refusal_line number layer place) (refusal_short number layer place small fits)
