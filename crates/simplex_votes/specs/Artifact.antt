-- The union of what a node stores: votes, certificate messages and what it certified.
use Rattle.std.proofs.Common.{◌≡◌, ℕ, Bool, true, false, List, ◌∷◌}
use Rattle.std.specs.Prelude.{codes, ◌&&◌, ⊤}
use Rattle.simplex_base.specs.Reading.{Refusal, invalid, Reading}
use Rattle.simplex_base.specs.Format.{Format, both, truth}
use Rattle.simplex_base.specs.Union.{union_at, branch_at, no_branch}
use Rattle.simplex_base.specs.Positions.{Round, round_format}
use Rattle.simplex_votes.specs.Encodings.{notarize_format, nullify_format, finalize_format, notarization_format, IsNotarization, notarization_encoding, nullification_format, IsNullification, nullification_encoding, finalization_format, IsFinalization, finalization_encoding}
use Rattle.simplex_votes.specs.declared.types.notarize.Notarize.{Notarize}
use Rattle.simplex_votes.specs.declared.types.nullify.Nullify.{Nullify}
use Rattle.simplex_votes.specs.declared.types.finalize.Finalize.{Finalize}
use Rattle.simplex_votes.specs.declared.types.notarization.Notarization.{Notarization}
use Rattle.simplex_votes.specs.declared.types.nullification.Nullification.{Nullification}
use Rattle.simplex_votes.specs.declared.types.finalization.Finalization.{Finalization}
use Rattle.simplex_votes.specs.declared.types.vote.Vote.{Vote}
use Rattle.simplex_votes.specs.declared.types.vote.Vote.TheVariants as vote
use Rattle.simplex_votes.specs.declared.types.certificate.Certificate.{Certificate}
use Rattle.simplex_votes.specs.declared.types.certificate.Certificate.TheVariants as certificate
use Rattle.simplex_votes.specs.declared.types.artifact.Artifact.{Artifact}
use Rattle.simplex_votes.specs.declared.types.artifact.Artifact.TheVariants as artifact

-- a vote, as an artifact
abbrev pub vote_artifact : {S D C P G : Type 0} → Vote S D P G → Artifact S D C P G
vote_artifact (vote.Notarize v) = artifact.Notarize v
vote_artifact (vote.Nullify v) = artifact.Nullify v
vote_artifact (vote.Finalize v) = artifact.Finalize v

-- a certificate message, as an artifact
abbrev pub certificate_artifact : {S D C P G : Type 0} → Certificate S D C P G → Artifact S D C P G
certificate_artifact (certificate.Notarization n) = artifact.Notarization n
certificate_artifact (certificate.Nullification n) = artifact.Nullification n
certificate_artifact (certificate.Finalization n) = artifact.Finalization n

-- the round that an artifact is of
abbrev pub artifact_round : {S D C P G : Type 0} → Artifact S D C P G → Round
artifact_round (artifact.Notarize v) = v.proposal.round
artifact_round (artifact.Notarization n) = n.proposal.round
artifact_round (artifact.Certification round certified) = round
artifact_round (artifact.Nullify v) = v.round
artifact_round (artifact.Nullification n) = n.round
artifact_round (artifact.Finalize v) = v.proposal.round
artifact_round (artifact.Finalization n) = n.proposal.round

-- the same member, equal by its type's equality
module _ {S D C P G : Type 0}
    (notarizes : Notarize S D P G → Notarize S D P G → Bool)
    (notarizations : Notarization S D C P G → Notarization S D C P G → Bool) (rounds : Round → Round → Bool)
    (truths : Bool → Bool → Bool) (nullifies : Nullify S P G → Nullify S P G → Bool)
    (nullifications : Nullification S C P G → Nullification S C P G → Bool)
    (finalizes : Finalize S D P G → Finalize S D P G → Bool)
    (finalizations : Finalization S D C P G → Finalization S D C P G → Bool) where
  abbrev pub same_artifact : Artifact S D C P G → Artifact S D C P G → Bool
  same_artifact (artifact.Notarize a) (artifact.Notarize b) = notarizes a b
  same_artifact (artifact.Notarization a) (artifact.Notarization b) = notarizations a b
  same_artifact (artifact.Certification r a) (artifact.Certification s b) = rounds r s && truths a b
  same_artifact (artifact.Nullify a) (artifact.Nullify b) = nullifies a b
  same_artifact (artifact.Nullification a) (artifact.Nullification b) = nullifications a b
  same_artifact (artifact.Finalize a) (artifact.Finalize b) = finalizes a b
  same_artifact (artifact.Finalization a) (artifact.Finalization b) = finalizations a b
  same_artifact _ _ = false

-- whether an artifact has a certificate
abbrev pub artifact_has_certificate : {S D C P G : Type 0} → Artifact S D C P G → Bool
artifact_has_certificate (artifact.Notarization n) = true
artifact_has_certificate (artifact.Nullification n) = true
artifact_has_certificate (artifact.Finalization n) = true
artifact_has_certificate _ = false

-- an artifact with a clone of the other's certificate and the other's parts besides
abbrev pub IsArtifactClone : {S D C P G : Type 0} → (C → C → Type 0) → Artifact S D C P G → Artifact S D C P G → Type 0
IsArtifactClone is_clone (artifact.Notarization n) (artifact.Notarization copy) =
    (copy.proposal ≡ n.proposal) × is_clone n.certificate copy.certificate
IsArtifactClone is_clone (artifact.Nullification n) (artifact.Nullification copy) =
    (copy.round ≡ n.round) × is_clone n.certificate copy.certificate
IsArtifactClone is_clone (artifact.Finalization n) (artifact.Finalization copy) =
    (copy.proposal ≡ n.proposal) × is_clone n.certificate copy.certificate
IsArtifactClone is_clone a copy = copy ≡ a

-- a clone of the certificate in it, if there is one, is that certificate
abbrev pub ArtifactClonesCertificate : {S D C P G : Type 0} → (C → C → Type 0) → Artifact S D C P G → Type 0
ArtifactClonesCertificate {C = C} is_clone (artifact.Notarization n) =
    (copy : C) → is_clone n.certificate copy → copy ≡ n.certificate
ArtifactClonesCertificate {C = C} is_clone (artifact.Nullification n) =
    (copy : C) → is_clone n.certificate copy → copy ≡ n.certificate
ArtifactClonesCertificate {C = C} is_clone (artifact.Finalization n) =
    (copy : C) → is_clone n.certificate copy → copy ≡ n.certificate
ArtifactClonesCertificate is_clone _ = ⊤

-- the refusal of a tag that no artifact has
abbrev pub unknown_artifact : Refusal
unknown_artifact = invalid (codes "consensus::simplex::Artifact") (codes "Invalid type")

abbrev pub IsArtifact : {S D C P G : Type 0} → Format D → (C → Type 0) → Format G → Artifact S D C P G → Type 0
IsArtifact payload is_certificate signature (artifact.Notarize v) = (notarize_format payload signature).is_value v
IsArtifact payload is_certificate signature (artifact.Notarization n) = IsNotarization payload is_certificate n
IsArtifact payload is_certificate signature (artifact.Certification round certified) =
    (both round_format truth).is_value (round, certified)
IsArtifact payload is_certificate signature (artifact.Nullify v) = (nullify_format signature).is_value v
IsArtifact payload is_certificate signature (artifact.Nullification n) = IsNullification is_certificate n
IsArtifact payload is_certificate signature (artifact.Finalize v) = (finalize_format payload signature).is_value v
IsArtifact payload is_certificate signature (artifact.Finalization n) = IsFinalization payload is_certificate n

abbrev pub artifact_tag : {S D C P G : Type 0} → Artifact S D C P G → ℕ
artifact_tag (artifact.Notarize v) = 0
artifact_tag (artifact.Notarization n) = 1
artifact_tag (artifact.Certification round certified) = 2
artifact_tag (artifact.Nullify v) = 3
artifact_tag (artifact.Nullification n) = 4
artifact_tag (artifact.Finalize v) = 5
artifact_tag (artifact.Finalization n) = 6

-- the encoding after the tag
abbrev pub artifact_body : {S D C P G : Type 0} → Format D → (C → List ℕ) → Format G → Artifact S D C P G → List ℕ
artifact_body payload encoding signature (artifact.Notarize v) = (notarize_format payload signature).encoding v
artifact_body payload encoding signature (artifact.Notarization n) = notarization_encoding payload encoding n
artifact_body payload encoding signature (artifact.Certification round certified) =
    (both round_format truth).encoding (round, certified)
artifact_body payload encoding signature (artifact.Nullify v) = (nullify_format signature).encoding v
artifact_body payload encoding signature (artifact.Nullification n) = nullification_encoding encoding n
artifact_body payload encoding signature (artifact.Finalize v) = (finalize_format payload signature).encoding v
artifact_body payload encoding signature (artifact.Finalization n) = finalization_encoding payload encoding n

-- the tag, and then the encoding after it
abbrev pub artifact_encoding : {S D C P G : Type 0} → Format D → (C → List ℕ) → Format G → Artifact S D C P G → List ℕ
artifact_encoding payload encoding signature a = artifact_tag a ∷ artifact_body payload encoding signature a

abbrev pub artifact_branches : {S D C P G : Type 0} → Format D → Format C → Format G → ℕ → List ℕ → Reading (Artifact S D C P G)
artifact_branches payload inner signature =
    branch_at 0 (λ v. artifact.Notarize v) (notarize_format payload signature).reading (
    branch_at 1 (λ n. artifact.Notarization n) (notarization_format payload inner).reading (
    branch_at 2 (λ p. artifact.Certification p.0 p.1) (both round_format truth).reading (
    branch_at 3 (λ v. artifact.Nullify v) (nullify_format signature).reading (
    branch_at 4 (λ n. artifact.Nullification n) (nullification_format inner).reading (
    branch_at 5 (λ v. artifact.Finalize v) (finalize_format payload signature).reading (
    branch_at 6 (λ n. artifact.Finalization n) (finalization_format payload inner).reading (
    no_branch unknown_artifact)))))))

-- a tag, and then the parts of the member with that tag, where `inner` is the format of certificates under a bound
abbrev pub artifact_format : {S D C P G : Type 0} → Format D → Format C → Format G → Format (Artifact S D C P G)
artifact_format payload inner signature = record {
  is_value = IsArtifact payload inner.is_value signature;
  encoding = artifact_encoding payload inner.encoding signature;
  reading = union_at (artifact_branches payload inner signature);
}
