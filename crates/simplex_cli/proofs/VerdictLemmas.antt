-- Which words say that the caller verified signatures.
use Rattle.std.proofs.Common.{◌≡◌, ◌∙◌, ℕ, ◌<◌, ◌^◌, List, [], ◌∷◌, Option, Some, None, ap, codes, decimal, get_or, subst, sym, arith}
use Rattle.std.specs.Prelude.{◌≢◌}
use Rattle.std.proofs.lemmas.Fmt.{decimal_injective}
use Rattle.simplex_cli.specs.Arguments.{IsCommitteeSize}
use Rattle.simplex_cli.specs.Verdicts.{AreBehindVerdicts, size_text}
use Rattle.simplex_cli.specs.declared.verdicts.SignatureSize.{SignatureSize}

-- the option without a size
pub nothing_behind : (words : List (List ℕ)) (first : List ℕ) → words ≡ first ∷ [] → first ≡ codes "--verdicts" →
    (size : Option SignatureSize) (behind : List (List ℕ)) → ¬ AreBehindVerdicts words size behind
nothing_behind words first is named None behind (none, same) = none ([], is ∙ ap (λ word. word ∷ []) named)
nothing_behind words first is named (Some size) behind given = let e = sym is ∙ given in absurd cc

-- the option with another size
pub no_size : (words more : List (List ℕ)) (first second : List ℕ) → words ≡ first ∷ second ∷ more →
    first ≡ codes "--verdicts" → ((size : SignatureSize) → second ≢ size_text size) → (size : Option SignatureSize)
    (behind : List (List ℕ)) → ¬ AreBehindVerdicts words size behind
no_size words more first second is named wrong None behind (none, same) =
    none (second ∷ more, is ∙ ap (λ word. word ∷ second ∷ more) named)
no_size words more first second is named wrong (Some size) behind given =
    wrong size (ap (λ (ws : List (List ℕ)). get_or ws 1 []) (sym is ∙ given))

-- the number of a text is that of each committee's size that the text is
pub same_count : (text : List ℕ) (number count : ℕ) → number < 2 ^ 64 → text ≡ decimal number → IsCommitteeSize count →
    text ≡ decimal count → IsCommitteeSize number
same_count text number count small is size named =
    subst IsCommitteeSize (decimal_injective count number (omega (arith, size.1)) small (sym named ∙ is)) size
