-- How votes and certificates are encoded.
use Rattle.std.proofs.Common.{ℕ, List, ◌++◌}
use Rattle.simplex_base.specs.Format.{Format, both, made}
use Rattle.simplex_base.specs.Positions.{round_format}
use Rattle.simplex_scheme.specs.Proposal.{proposal_format}
use Rattle.simplex_scheme.specs.Attestation.{attestation_format}
use Rattle.simplex_votes.specs.declared.types.notarize.Notarize.{Notarize}
use Rattle.simplex_votes.specs.declared.types.nullify.Nullify.{Nullify}
use Rattle.simplex_votes.specs.declared.types.finalize.Finalize.{Finalize}
use Rattle.simplex_votes.specs.declared.types.notarization.Notarization.{Notarization}
use Rattle.simplex_votes.specs.declared.types.nullification.Nullification.{Nullification}
use Rattle.simplex_votes.specs.declared.types.finalization.Finalization.{Finalization}

-- the proposal, and then the attestation
abbrev pub notarize_format : {S D P G : Type 0} → Format D → Format G → Format (Notarize S D P G)
notarize_format payload signature =
    made (λ p. record { proposal = p.0; attestation = p.1 }) (λ v. (v.proposal, v.attestation))
    (both (proposal_format payload) (attestation_format signature))

-- the round, and then the attestation
abbrev pub nullify_format : {S P G : Type 0} → Format G → Format (Nullify S P G)
nullify_format signature =
    made (λ p. record { round = p.0; attestation = p.1 }) (λ v. (v.round, v.attestation))
    (both round_format (attestation_format signature))

-- the proposal, and then the attestation
abbrev pub finalize_format : {S D P G : Type 0} → Format D → Format G → Format (Finalize S D P G)
finalize_format payload signature =
    made (λ p. record { proposal = p.0; attestation = p.1 }) (λ v. (v.proposal, v.attestation))
    (both (proposal_format payload) (attestation_format signature))

-- the proposal, and then the certificate
abbrev pub notarization_format : {S D C P G : Type 0} → Format D → Format C → Format (Notarization S D C P G)
notarization_format payload certificate =
    made (λ p. record { proposal = p.0; certificate = p.1 }) (λ n. (n.proposal, n.certificate))
    (both (proposal_format payload) certificate)

-- both parts are values
abbrev pub IsNotarization : {S D C P G : Type 0} → Format D → (C → Type 0) → Notarization S D C P G → Type 0
IsNotarization payload is_certificate n = (proposal_format payload).is_value n.proposal × is_certificate n.certificate

-- the encoding of the proposal, and then that of the certificate
abbrev pub notarization_encoding : {S D C P G : Type 0} → Format D → (C → List ℕ) → Notarization S D C P G → List ℕ
notarization_encoding payload certificate n = (proposal_format payload).encoding n.proposal ++ certificate n.certificate

-- the round, and then the certificate
abbrev pub nullification_format : {S C P G : Type 0} → Format C → Format (Nullification S C P G)
nullification_format certificate =
    made (λ p. record { round = p.0; certificate = p.1 }) (λ n. (n.round, n.certificate)) (both round_format certificate)

abbrev pub IsNullification : {S C P G : Type 0} → (C → Type 0) → Nullification S C P G → Type 0
IsNullification is_certificate n = round_format.is_value n.round × is_certificate n.certificate

abbrev pub nullification_encoding : {S C P G : Type 0} → (C → List ℕ) → Nullification S C P G → List ℕ
nullification_encoding certificate n = round_format.encoding n.round ++ certificate n.certificate

-- the proposal, and then the certificate
abbrev pub finalization_format : {S D C P G : Type 0} → Format D → Format C → Format (Finalization S D C P G)
finalization_format payload certificate =
    made (λ p. record { proposal = p.0; certificate = p.1 }) (λ n. (n.proposal, n.certificate))
    (both (proposal_format payload) certificate)

abbrev pub IsFinalization : {S D C P G : Type 0} → Format D → (C → Type 0) → Finalization S D C P G → Type 0
IsFinalization payload is_certificate n = (proposal_format payload).is_value n.proposal × is_certificate n.certificate

abbrev pub finalization_encoding : {S D C P G : Type 0} → Format D → (C → List ℕ) → Finalization S D C P G → List ℕ
finalization_encoding payload certificate n = (proposal_format payload).encoding n.proposal ++ certificate n.certificate
