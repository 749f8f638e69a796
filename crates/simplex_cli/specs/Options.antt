-- Options in front of arguments.
use Rattle.std.specs.Prelude.{◌≡◌, ◌⊎◌, ℕ, ◌<◌, ◌^◌, List, ◌∷◌, decimal}

-- the words begin with an option
abbrev pub BeginWith : List ℕ → List (List ℕ) → Type 0
BeginWith option words = (behind : List (List ℕ)) × (words ≡ option ∷ behind)

-- the words are an option, a number and words behind it, or without the option the number is another
abbrev pub AreBehindOption : List ℕ → ℕ → List (List ℕ) → ℕ → List (List ℕ) → Type 0
AreBehindOption option otherwise words number behind =
    ((words ≡ option ∷ decimal number ∷ behind) × (number < 2 ^ 64))
    ⊎ ((BeginWith option words → ⊥) × (number ≡ otherwise) × (behind ≡ words))
