-- The union of all messages: how they are encoded, the votes that one holds, and what makes one valid.
use Rattle.std.proofs.Common.{◌≡◌, ℕ, ◌+◌, ◌*◌, ◌^◌, ◌≤◌, ◌⊎◌, Bool, true, false, List, ◌∷◌}
use Rattle.std.specs.Prelude.{codes, max, Option, ⊤}
use Rattle.simplex_base.specs.Reading.{Refusal, invalid, Reading}
use Rattle.simplex_base.specs.Format.{Format}
use Rattle.simplex_base.specs.Union.{union_at, branch_at, no_branch}
use Rattle.simplex_base.specs.Positions.{Round, IsLongRound}
use Rattle.simplex_scheme.specs.Proposal.{IsLongProposal}
use Rattle.simplex_scheme.specs.declared.scheme.Attestation.{Attestation}
use Rattle.simplex_scheme.specs.Subject.{SubjectValue, Notarizes, Nullifies, Finalizes}
use Rattle.simplex_votes.specs.Votes.{SignedVote, notarize_vote, nullify_vote, finalize_vote}
use Rattle.simplex_votes.specs.Encodings.{notarize_format, nullify_format, finalize_format, notarization_format, IsNotarization, notarization_encoding, nullification_format, IsNullification, nullification_encoding, finalization_format, IsFinalization, finalization_encoding}
use Rattle.simplex_evidence.specs.Contents.{ContentsValue, OneVote, OneCertificate, TwoVotes, contents_round, contents_votes, contents_certificate, contents_verify}
use Rattle.simplex_evidence.specs.Conflict.{ConflictValue, conflicting_notarize_format, conflicting_finalize_format, nullify_finalize_format}
use Rattle.simplex_votes.specs.declared.types.notarize.Notarize.{Notarize}
use Rattle.simplex_votes.specs.declared.types.nullify.Nullify.{Nullify}
use Rattle.simplex_votes.specs.declared.types.finalize.Finalize.{Finalize}
use Rattle.simplex_votes.specs.declared.types.notarization.Notarization.{Notarization}
use Rattle.simplex_votes.specs.declared.types.nullification.Nullification.{Nullification}
use Rattle.simplex_votes.specs.declared.types.finalization.Finalization.{Finalization}
use Rattle.simplex_evidence.specs.declared.types.activity.Activity.{Activity}
use Rattle.simplex_evidence.specs.declared.types.activity.Activity.TheVariants as activity

-- what a message holds
abbrev pub contents_of : {S D C P G : Type 0} → Activity S D C P G → ContentsValue D C G
contents_of (activity.Notarize v) = OneVote (notarize_vote v)
contents_of (activity.Notarization n) = OneCertificate (Notarizes n.proposal) n.certificate
contents_of (activity.Certification n) = OneCertificate (Notarizes n.proposal) n.certificate
contents_of (activity.Nullify v) = OneVote (nullify_vote v)
contents_of (activity.Nullification n) = OneCertificate (Nullifies n.round) n.certificate
contents_of (activity.Finalize v) = OneVote (finalize_vote v)
contents_of (activity.Finalization n) = OneCertificate (Finalizes n.proposal) n.certificate
contents_of (activity.ConflictingNotarize c) = TwoVotes (notarize_vote c.first) (notarize_vote c.second)
contents_of (activity.ConflictingFinalize c) = TwoVotes (finalize_vote c.first) (finalize_vote c.second)
contents_of (activity.NullifyFinalize c) = TwoVotes (nullify_vote c.first) (finalize_vote c.second)

-- the round that a message is of
abbrev pub activity_round : {S D C P G : Type 0} → Activity S D C P G → Round
activity_round m = contents_round (contents_of m)

-- the same member, equal by its type's equality
module _ {S D C P G : Type 0}
    (notarizes : Notarize S D P G → Notarize S D P G → Bool)
    (notarizations : Notarization S D C P G → Notarization S D C P G → Bool)
    (nullifies : Nullify S P G → Nullify S P G → Bool)
    (nullifications : Nullification S C P G → Nullification S C P G → Bool)
    (finalizes : Finalize S D P G → Finalize S D P G → Bool)
    (finalizations : Finalization S D C P G → Finalization S D C P G → Bool)
    (conflicting_notarizes : ConflictValue (Notarize S D P G) (Notarize S D P G) →
    ConflictValue (Notarize S D P G) (Notarize S D P G) → Bool)
    (conflicting_finalizes : ConflictValue (Finalize S D P G) (Finalize S D P G) →
    ConflictValue (Finalize S D P G) (Finalize S D P G) → Bool)
    (nullify_finalizes : ConflictValue (Nullify S P G) (Finalize S D P G) →
    ConflictValue (Nullify S P G) (Finalize S D P G) → Bool) where
  abbrev pub same_activity : Activity S D C P G → Activity S D C P G → Bool
  same_activity (activity.Notarize a) (activity.Notarize b) = notarizes a b
  same_activity (activity.Notarization a) (activity.Notarization b) = notarizations a b
  same_activity (activity.Certification a) (activity.Certification b) = notarizations a b
  same_activity (activity.Nullify a) (activity.Nullify b) = nullifies a b
  same_activity (activity.Nullification a) (activity.Nullification b) = nullifications a b
  same_activity (activity.Finalize a) (activity.Finalize b) = finalizes a b
  same_activity (activity.Finalization a) (activity.Finalization b) = finalizations a b
  same_activity (activity.ConflictingNotarize a) (activity.ConflictingNotarize b) = conflicting_notarizes a b
  same_activity (activity.ConflictingFinalize a) (activity.ConflictingFinalize b) = conflicting_finalizes a b
  same_activity (activity.NullifyFinalize a) (activity.NullifyFinalize b) = nullify_finalizes a b
  same_activity _ _ = false

-- ---- the votes that a message holds

-- the certificate of a message, if it has one, with the subject that it is for
abbrev pub subject_and_certificate : {S D C P G : Type 0} → Activity S D C P G → Option (SubjectValue D × C)
subject_and_certificate m = contents_certificate (contents_of m)

-- the votes that a message holds, in its order: `listed` gives the attestations that a certificate lists
abbrev pub votes_in : {S D C P G : Type 0} → (C → List (Attestation S P G)) → Activity S D C P G → List (SignedVote D G)
votes_in listed m = contents_votes listed (contents_of m)

-- ---- what makes a message valid

-- a vote by its signature, a certificate message by its certificate, and evidence by both of its signatures
abbrev pub activity_verifies : {S D C P G : Type 0} → (SubjectValue D → ℕ → G → Bool) → (SubjectValue D → C → Bool) →
    Activity S D C P G → Bool
activity_verifies good certified m = contents_verify good certified (contents_of m)

-- whether a message has a certificate
abbrev pub has_certificate : {S D C P G : Type 0} → Activity S D C P G → Bool
has_certificate (activity.Notarization n) = true
has_certificate (activity.Certification n) = true
has_certificate (activity.Nullification n) = true
has_certificate (activity.Finalization n) = true
has_certificate _ = false

-- ---- long messages

-- a vote with a number of more than four bytes, or a message that is no vote
abbrev pub IsLongActivity : {S D C P G : Type 0} → Activity S D C P G → Type 0
IsLongActivity (activity.Notarize v) = IsLongProposal v.proposal ⊎ (2 ^ 28 ≤ v.attestation.signer)
IsLongActivity (activity.Nullify v) = IsLongRound v.round ⊎ (2 ^ 28 ≤ v.attestation.signer)
IsLongActivity (activity.Finalize v) = IsLongProposal v.proposal ⊎ (2 ^ 28 ≤ v.attestation.signer)
IsLongActivity _ = ⊤

-- ---- clones

-- a message with a clone of the other's certificate and the other's parts besides
abbrev pub IsActivityClone : {S D C P G : Type 0} → (C → C → Type 0) → Activity S D C P G → Activity S D C P G → Type 0
IsActivityClone is_clone (activity.Notarization n) (activity.Notarization copy) =
    (copy.proposal ≡ n.proposal) × is_clone n.certificate copy.certificate
IsActivityClone is_clone (activity.Certification n) (activity.Certification copy) =
    (copy.proposal ≡ n.proposal) × is_clone n.certificate copy.certificate
IsActivityClone is_clone (activity.Nullification n) (activity.Nullification copy) =
    (copy.round ≡ n.round) × is_clone n.certificate copy.certificate
IsActivityClone is_clone (activity.Finalization n) (activity.Finalization copy) =
    (copy.proposal ≡ n.proposal) × is_clone n.certificate copy.certificate
IsActivityClone is_clone m copy = copy ≡ m

-- a clone of the certificate in it, if there is one, is that certificate
abbrev pub ClonesCertificate : {S D C P G : Type 0} → (C → C → Type 0) → Activity S D C P G → Type 0
ClonesCertificate {C = C} is_clone (activity.Notarization n) = (copy : C) → is_clone n.certificate copy → copy ≡ n.certificate
ClonesCertificate {C = C} is_clone (activity.Certification n) = (copy : C) → is_clone n.certificate copy → copy ≡ n.certificate
ClonesCertificate {C = C} is_clone (activity.Nullification n) = (copy : C) → is_clone n.certificate copy → copy ≡ n.certificate
ClonesCertificate {C = C} is_clone (activity.Finalization n) = (copy : C) → is_clone n.certificate copy → copy ≡ n.certificate
ClonesCertificate is_clone _ = ⊤

-- ---- how messages are encoded; `eq` compares payloads

-- the refusal of a tag that no message has
abbrev pub unknown_activity : Refusal
unknown_activity = invalid (codes "consensus::simplex::Activity") (codes "Invalid type")

abbrev pub IsActivity : {S D C P G : Type 0} → (D → D → Bool) → Format D → (C → Type 0) → Format G → Activity S D C P G → Type 0
IsActivity eq payload is_certificate signature (activity.Notarize v) = (notarize_format payload signature).is_value v
IsActivity eq payload is_certificate signature (activity.Notarization n) = IsNotarization payload is_certificate n
IsActivity eq payload is_certificate signature (activity.Certification n) = IsNotarization payload is_certificate n
IsActivity eq payload is_certificate signature (activity.Nullify v) = (nullify_format signature).is_value v
IsActivity eq payload is_certificate signature (activity.Nullification n) = IsNullification is_certificate n
IsActivity eq payload is_certificate signature (activity.Finalize v) = (finalize_format payload signature).is_value v
IsActivity eq payload is_certificate signature (activity.Finalization n) = IsFinalization payload is_certificate n
IsActivity eq payload is_certificate signature (activity.ConflictingNotarize c) =
    (conflicting_notarize_format eq payload signature).is_value c
IsActivity eq payload is_certificate signature (activity.ConflictingFinalize c) =
    (conflicting_finalize_format eq payload signature).is_value c
IsActivity eq payload is_certificate signature (activity.NullifyFinalize c) =
    (nullify_finalize_format eq payload signature).is_value c

abbrev pub activity_tag : {S D C P G : Type 0} → Activity S D C P G → ℕ
activity_tag (activity.Notarize v) = 0
activity_tag (activity.Notarization n) = 1
activity_tag (activity.Certification n) = 2
activity_tag (activity.Nullify v) = 3
activity_tag (activity.Nullification n) = 4
activity_tag (activity.Finalize v) = 5
activity_tag (activity.Finalization n) = 6
activity_tag (activity.ConflictingNotarize c) = 7
activity_tag (activity.ConflictingFinalize c) = 8
activity_tag (activity.NullifyFinalize c) = 9

-- the encoding after the tag
abbrev pub activity_body : {S D C P G : Type 0} → (D → D → Bool) → Format D → (C → List ℕ) → Format G →
    Activity S D C P G → List ℕ
activity_body eq payload certificate signature (activity.Notarize v) = (notarize_format payload signature).encoding v
activity_body eq payload certificate signature (activity.Notarization n) = notarization_encoding payload certificate n
activity_body eq payload certificate signature (activity.Certification n) = notarization_encoding payload certificate n
activity_body eq payload certificate signature (activity.Nullify v) = (nullify_format signature).encoding v
activity_body eq payload certificate signature (activity.Nullification n) = nullification_encoding certificate n
activity_body eq payload certificate signature (activity.Finalize v) = (finalize_format payload signature).encoding v
activity_body eq payload certificate signature (activity.Finalization n) = finalization_encoding payload certificate n
activity_body eq payload certificate signature (activity.ConflictingNotarize c) =
    (conflicting_notarize_format eq payload signature).encoding c
activity_body eq payload certificate signature (activity.ConflictingFinalize c) =
    (conflicting_finalize_format eq payload signature).encoding c
activity_body eq payload certificate signature (activity.NullifyFinalize c) =
    (nullify_finalize_format eq payload signature).encoding c

-- the tag, and then the encoding after it
abbrev pub activity_encoding : {S D C P G : Type 0} → (D → D → Bool) → Format D → (C → List ℕ) → Format G →
    Activity S D C P G → List ℕ
activity_encoding eq payload certificate signature m = activity_tag m ∷ activity_body eq payload certificate signature m

abbrev pub activity_branches : {S D C P G : Type 0} → (D → D → Bool) → Format D → Format C → Format G → ℕ → List ℕ →
    Reading (Activity S D C P G)
activity_branches eq payload certificate signature =
    branch_at 0 (λ v. activity.Notarize v) (notarize_format payload signature).reading (
    branch_at 1 (λ n. activity.Notarization n) (notarization_format payload certificate).reading (
    branch_at 2 (λ n. activity.Certification n) (notarization_format payload certificate).reading (
    branch_at 3 (λ v. activity.Nullify v) (nullify_format signature).reading (
    branch_at 4 (λ n. activity.Nullification n) (nullification_format certificate).reading (
    branch_at 5 (λ v. activity.Finalize v) (finalize_format payload signature).reading (
    branch_at 6 (λ n. activity.Finalization n) (finalization_format payload certificate).reading (
    branch_at 7 (λ c. activity.ConflictingNotarize c) (conflicting_notarize_format eq payload signature).reading (
    branch_at 8 (λ c. activity.ConflictingFinalize c) (conflicting_finalize_format eq payload signature).reading (
    branch_at 9 (λ c. activity.NullifyFinalize c) (nullify_finalize_format eq payload signature).reading (
    no_branch unknown_activity))))))))))

-- With payloads, certificates and signatures of at most as many bytes, the longest message has a certificate, or is evidence
-- with two proposals.
abbrev pub activity_longest : ℕ → ℕ → ℕ → ℕ
activity_longest payload certificate signature = 1 + max (30 + payload + certificate) (2 * (35 + payload + signature))

-- a tag, and then the parts of the member with that tag; `certificate` is the format of certificates under a bound
abbrev pub activity_format : {S D C P G : Type 0} → (D → D → Bool) → Format D → Format C → Format G →
    Format (Activity S D C P G)
activity_format eq payload certificate signature = record {
  is_value = IsActivity eq payload certificate.is_value signature;
  encoding = activity_encoding eq payload certificate.encoding signature;
  reading = union_at (activity_branches eq payload certificate signature);
}
