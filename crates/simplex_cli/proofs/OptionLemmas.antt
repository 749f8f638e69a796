-- Words without a number behind an option.
use Rattle.std.proofs.Common.{◌≡◌, ◌∙◌, ap, inl, inr, length, ℕ, List, [], ◌∷◌, refl, sym}
use Rattle.simplex_cli.specs.Options.{AreBehindOption}

-- no elements
pub none_left : {X : Type 0} (xs : List X) → length xs ≡ 0 → xs ≡ []
none_left [] e = refl
none_left (x ∷ xs) e = absurd cc

-- an option without a number
pub no_number : (option : List ℕ) (otherwise : ℕ) (words : List (List ℕ)) (first : List ℕ) → words ≡ first ∷ [] →
    first ≡ option → (number : ℕ) (behind : List (List ℕ)) → ¬ AreBehindOption option otherwise words number behind
no_number option otherwise words first is named number behind (inl given) = let e = sym is ∙ given.0 in absurd cc
no_number option otherwise words first is named number behind (inr none) = none.0 ([], is ∙ ap (λ word. word ∷ []) named)
