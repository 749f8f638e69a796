-- The unions of votes and of certificate messages: what each member is about, and how it is encoded.
use Rattle.std.proofs.Common.{ℕ, Bool, true, false, List, ◌∷◌}
use Rattle.std.specs.Prelude.{codes}
use Rattle.simplex_base.specs.Reading.{Refusal, invalid, Reading}
use Rattle.simplex_base.specs.Format.{Format}
use Rattle.simplex_base.specs.Union.{union_at, branch_at, no_branch}
use Rattle.simplex_base.specs.Positions.{Round}
use Rattle.simplex_scheme.specs.declared.scheme.Attestation.{Attestation}
use Rattle.simplex_scheme.specs.Subject.{SubjectValue, Notarizes, Nullifies, Finalizes}
use Rattle.simplex_votes.specs.Encodings.{notarize_format, nullify_format, finalize_format, notarization_format, IsNotarization, notarization_encoding, nullification_format, IsNullification, nullification_encoding, finalization_format, IsFinalization, finalization_encoding}
use Rattle.simplex_votes.specs.declared.types.notarize.Notarize.{Notarize}
use Rattle.simplex_votes.specs.declared.types.nullify.Nullify.{Nullify}
use Rattle.simplex_votes.specs.declared.types.finalize.Finalize.{Finalize}
use Rattle.simplex_votes.specs.declared.types.notarization.Notarization.{Notarization}
use Rattle.simplex_votes.specs.declared.types.nullification.Nullification.{Nullification}
use Rattle.simplex_votes.specs.declared.types.finalization.Finalization.{Finalization}
use Rattle.simplex_votes.specs.declared.types.vote.Vote.{Vote}
use Rattle.simplex_votes.specs.declared.types.vote.Vote.TheVariants as vote
use Rattle.simplex_votes.specs.declared.types.certificate.Kind.{Kind}
use Rattle.simplex_votes.specs.declared.types.certificate.Kind.TheVariants as kind
use Rattle.simplex_votes.specs.declared.types.certificate.Certificate.{Certificate}
use Rattle.simplex_votes.specs.declared.types.certificate.Certificate.TheVariants as certificate

-- ---- votes

-- the round that a vote is of
abbrev pub vote_round : {S D P G : Type 0} → Vote S D P G → Round
vote_round (vote.Notarize v) = v.proposal.round
vote_round (vote.Nullify v) = v.round
vote_round (vote.Finalize v) = v.proposal.round

-- its signer and signature
abbrev pub vote_attestation : {S D P G : Type 0} → Vote S D P G → Attestation S P G
vote_attestation (vote.Notarize v) = v.attestation
vote_attestation (vote.Nullify v) = v.attestation
vote_attestation (vote.Finalize v) = v.attestation

-- the same member, equal by its type's equality
module _ {S D P G : Type 0}
    (notarizes : Notarize S D P G → Notarize S D P G → Bool) (nullifies : Nullify S P G → Nullify S P G → Bool)
    (finalizes : Finalize S D P G → Finalize S D P G → Bool) where
  abbrev pub same_vote : Vote S D P G → Vote S D P G → Bool
  same_vote (vote.Notarize a) (vote.Notarize b) = notarizes a b
  same_vote (vote.Nullify a) (vote.Nullify b) = nullifies a b
  same_vote (vote.Finalize a) (vote.Finalize b) = finalizes a b
  same_vote _ _ = false

-- the refusal of a tag that no vote has
abbrev pub unknown_vote : Refusal
unknown_vote = invalid (codes "consensus::simplex::Vote") (codes "Invalid type")

abbrev pub IsVote : {S D P G : Type 0} → Format D → Format G → Vote S D P G → Type 0
IsVote payload signature (vote.Notarize v) = (notarize_format payload signature).is_value v
IsVote payload signature (vote.Nullify v) = (nullify_format signature).is_value v
IsVote payload signature (vote.Finalize v) = (finalize_format payload signature).is_value v

abbrev pub vote_tag : {S D P G : Type 0} → Vote S D P G → ℕ
vote_tag (vote.Notarize v) = 0
vote_tag (vote.Nullify v) = 1
vote_tag (vote.Finalize v) = 2

-- the encoding after the tag
abbrev pub vote_body : {S D P G : Type 0} → Format D → Format G → Vote S D P G → List ℕ
vote_body payload signature (vote.Notarize v) = (notarize_format payload signature).encoding v
vote_body payload signature (vote.Nullify v) = (nullify_format signature).encoding v
vote_body payload signature (vote.Finalize v) = (finalize_format payload signature).encoding v

abbrev pub vote_branches : {S D P G : Type 0} → Format D → Format G → ℕ → List ℕ → Reading (Vote S D P G)
vote_branches payload signature =
    branch_at 0 (λ v. vote.Notarize v) (notarize_format payload signature).reading (
    branch_at 1 (λ v. vote.Nullify v) (nullify_format signature).reading (
    branch_at 2 (λ v. vote.Finalize v) (finalize_format payload signature).reading (
    no_branch unknown_vote)))

-- a tag, and then the parts of the vote with that tag
abbrev pub vote_format : {S D P G : Type 0} → Format D → Format G → Format (Vote S D P G)
vote_format payload signature = record {
  is_value = IsVote payload signature;
  encoding = λ v. vote_tag v ∷ vote_body payload signature v;
  reading = union_at (vote_branches payload signature);
}

-- ---- certificate messages

-- the same kind
abbrev pub same_certificate_kind : Kind → Kind → Bool
same_certificate_kind kind.Notarization kind.Notarization = true
same_certificate_kind kind.Nullification kind.Nullification = true
same_certificate_kind kind.Finalization kind.Finalization = true
same_certificate_kind _ _ = false

-- the same member, equal by its type's equality
module _ {S D C P G : Type 0}
    (notarizations : Notarization S D C P G → Notarization S D C P G → Bool)
    (nullifications : Nullification S C P G → Nullification S C P G → Bool)
    (finalizations : Finalization S D C P G → Finalization S D C P G → Bool) where
  abbrev pub same_certificate : Certificate S D C P G → Certificate S D C P G → Bool
  same_certificate (certificate.Notarization a) (certificate.Notarization b) = notarizations a b
  same_certificate (certificate.Nullification a) (certificate.Nullification b) = nullifications a b
  same_certificate (certificate.Finalization a) (certificate.Finalization b) = finalizations a b
  same_certificate _ _ = false

-- the kind of a certificate message
abbrev pub certificate_kind : {S D C P G : Type 0} → Certificate S D C P G → Kind
certificate_kind (certificate.Notarization n) = kind.Notarization
certificate_kind (certificate.Nullification n) = kind.Nullification
certificate_kind (certificate.Finalization n) = kind.Finalization

-- the name of a kind, as it prints
abbrev pub certificate_kind_word : Kind → List ℕ
certificate_kind_word kind.Notarization = codes "notarization"
certificate_kind_word kind.Nullification = codes "nullification"
certificate_kind_word kind.Finalization = codes "finalization"

-- the round that a certificate message is of
abbrev pub certificate_round : {S D C P G : Type 0} → Certificate S D C P G → Round
certificate_round (certificate.Notarization n) = n.proposal.round
certificate_round (certificate.Nullification n) = n.round
certificate_round (certificate.Finalization n) = n.proposal.round

-- what the certificate is to certify
abbrev pub certificate_subject : {S D C P G : Type 0} → Certificate S D C P G → SubjectValue D
certificate_subject (certificate.Notarization n) = Notarizes n.proposal
certificate_subject (certificate.Nullification n) = Nullifies n.round
certificate_subject (certificate.Finalization n) = Finalizes n.proposal

-- the certificate itself
abbrev pub certificate_in : {S D C P G : Type 0} → Certificate S D C P G → C
certificate_in (certificate.Notarization n) = n.certificate
certificate_in (certificate.Nullification n) = n.certificate
certificate_in (certificate.Finalization n) = n.certificate

-- the refusal of a tag that no certificate message has
abbrev pub unknown_certificate : Refusal
unknown_certificate = invalid (codes "consensus::simplex::Certificate") (codes "Invalid type")

abbrev pub IsCertificate : {S D C P G : Type 0} → Format D → (C → Type 0) → Certificate S D C P G → Type 0
IsCertificate payload is_certificate (certificate.Notarization n) = IsNotarization payload is_certificate n
IsCertificate payload is_certificate (certificate.Nullification n) = IsNullification is_certificate n
IsCertificate payload is_certificate (certificate.Finalization n) = IsFinalization payload is_certificate n

abbrev pub certificate_tag : {S D C P G : Type 0} → Certificate S D C P G → ℕ
certificate_tag (certificate.Notarization n) = 0
certificate_tag (certificate.Nullification n) = 1
certificate_tag (certificate.Finalization n) = 2

-- the encoding after the tag
abbrev pub certificate_body : {S D C P G : Type 0} → Format D → (C → List ℕ) → Certificate S D C P G → List ℕ
certificate_body payload encoding (certificate.Notarization n) = notarization_encoding payload encoding n
certificate_body payload encoding (certificate.Nullification n) = nullification_encoding encoding n
certificate_body payload encoding (certificate.Finalization n) = finalization_encoding payload encoding n

-- the tag, and then the encoding after it
abbrev pub certificate_encoding : {S D C P G : Type 0} → Format D → (C → List ℕ) → Certificate S D C P G → List ℕ
certificate_encoding payload encoding c = certificate_tag c ∷ certificate_body payload encoding c

abbrev pub certificate_branches : {S D C P G : Type 0} → Format D → Format C → ℕ → List ℕ → Reading (Certificate S D C P G)
certificate_branches payload inner =
    branch_at 0 (λ n. certificate.Notarization n) (notarization_format payload inner).reading (
    branch_at 1 (λ n. certificate.Nullification n) (nullification_format inner).reading (
    branch_at 2 (λ n. certificate.Finalization n) (finalization_format payload inner).reading (
    no_branch unknown_certificate)))

-- a tag, and then the parts of the message with that tag, where `inner` is the format of certificates under a bound
abbrev pub certificate_format : {S D C P G : Type 0} → Format D → Format C → Format (Certificate S D C P G)
certificate_format payload inner = record {
  is_value = IsCertificate payload inner.is_value;
  encoding = certificate_encoding payload inner.encoding;
  reading = union_at (certificate_branches payload inner);
}
