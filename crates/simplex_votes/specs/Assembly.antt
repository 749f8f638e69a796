-- How certificates are assembled from votes.
use Rattle.std.specs.Prelude.{◌≡◌, ℕ, ◌<◌, ◌≤◌, List, length, map, All, nat_eq}
use Rattle.std.specs.List.{IsDistinct, AllPairs}
use Rattle.simplex_scheme.specs.declared.scheme.Attestation.{Attestation}
use Rattle.simplex_scheme.specs.Committee.{signers_of}
use Rattle.simplex_votes.specs.declared.types.notarize.Notarize.{Notarize}
use Rattle.simplex_votes.specs.declared.types.nullify.Nullify.{Nullify}
use Rattle.simplex_votes.specs.declared.types.finalize.Finalize.{Finalize}

-- votes from which a certificate can be assembled: at least one, all of one subject, and of distinct participants out
-- of n. V is the type of votes, X that of what they are for
pub record CanAssemble {V X S P G : Type 0} (subject : V → X) (attestation : V → Attestation S P G) (n : ℕ)
    (votes : List V) : Type 0 where
  pub some : 1 ≤ length votes
  pub same : AllPairs (λ v w. subject v ≡ subject w) votes
  pub distinct : IsDistinct nat_eq (signers_of (map attestation votes))
  pub members : All (λ a. a.signer < n) (map attestation votes)

-- votes of one subject by participants out of n, in the order of their signers, as a vote map holds them
pub record StandInOrder {V X S P G : Type 0} (subject : V → X) (attestation : V → Attestation S P G) (n : ℕ)
    (votes : List V) : Type 0 where
  pub some : 1 ≤ length votes
  pub same : AllPairs (λ v w. subject v ≡ subject w) votes
  pub ordered : AllPairs (λ v w. (attestation v).signer < (attestation w).signer) votes
  pub members : All (λ v. (attestation v).signer < n) votes

-- notarizes from which a notarization can be assembled: all are for one proposal
abbrev pub CanNotarize : {S D P G : Type 0} → ℕ → List (Notarize S D P G) → Type 0
CanNotarize n votes = CanAssemble (λ v. v.proposal) (λ v. v.attestation) n votes

-- nullifies from which a nullification can be assembled: all are for one round
abbrev pub CanNullify : {S P G : Type 0} → ℕ → List (Nullify S P G) → Type 0
CanNullify n votes = CanAssemble (λ v. v.round) (λ v. v.attestation) n votes

-- finalizes from which a finalization can be assembled: all are for one proposal
abbrev pub CanFinalize : {S D P G : Type 0} → ℕ → List (Finalize S D P G) → Type 0
CanFinalize n votes = CanAssemble (λ v. v.proposal) (λ v. v.attestation) n votes
