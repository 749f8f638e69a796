-- Attestations that are read as far as they go.
use Rattle.std.specs.Prelude.{◌≡◌, ℕ, ◌+◌, ◌<◌, ◌≤◌, List, ◌++◌, length, Ok, All}
use Rattle.std.specs.List.{flat_map}
use Rattle.simplex_base.specs.Format.{Format}
use Rattle.simplex_scheme.specs.Attestation.{attestation_format}
use Rattle.simplex_scheme.specs.declared.scheme.Attestation.{Attestation}
use Rattle.simplex_schemes.specs.Listed.{attestation_at}

-- the bytes are those of `number` attestations and then the rest, and a signer above theirs is `least` or above it
pub record IsSkimmed (S P : Type 0) {G : Type 0} (signature : Format G) (bytes rest : List ℕ) (number least : ℕ) : Type 0 where
  pub front : List (Attestation S P G)
  pub each : All (attestation_format signature).is_value front
  pub parts : bytes ≡ flat_map (attestation_format signature).encoding front ++ rest
  pub number_is : length front ≡ number
  pub above : (signer : ℕ) → All (λ a. a.signer < signer) front → least ≤ signer

-- of `count` attestations all but the last `left` were read, and the rest is refused as a further one
pub record IsRefused (S P : Type 0) {G : Type 0} (signature : Format G) (bound count : ℕ) (bytes rest : List ℕ)
    (left : ℕ) : Type 0 where
  pub number : ℕ
  pub least : ℕ
  pub skimmed : IsSkimmed S P signature bytes rest number least
  pub count_is : number + left ≡ count
  pub refused : 0 < left → (a : Attestation S P G) (after : List ℕ) →
      attestation_at signature bound least rest ≡ Ok (a, after) → ⊥
