-- Attestations that are known to be valid.
use Rattle.std.specs.Prelude.{◌≡◌, ℕ, Bool, true}
use Rattle.simplex_scheme.specs.Subject.{SubjectValue}

-- whatever is known is valid
abbrev pub AreValid : {D G : Type 0} → (SubjectValue D → ℕ → G → Type 0) → (SubjectValue D → ℕ → G → Bool) → Type 0
AreValid {D} {G} known good =
    (subject : SubjectValue D) (signer : ℕ) (signature : G) → known subject signer signature →
    good subject signer signature ≡ true
