-- How messages are shown, and the validity of their signatures and certificates.
use Rattle.std.specs.Prelude.{ℕ, List, length, Option, option_map}
use Rattle.simplex_scheme.specs.Committee.{quorum_of}
use Rattle.simplex_scheme.specs.Subject.{SubjectValue, round_of}
use Rattle.simplex_scheme.specs.declared.scheme.Attestation.{Attestation}
use Rattle.simplex_votes.specs.Votes.{SignedVote}
use Rattle.simplex_scheme.specs.Committees.{Schedule}
use Rattle.simplex_rules.specs.Scheme.{rules_of, Scheme}
use Rattle.simplex_rules.specs.Rules.{Rules, is_valid}
use Rattle.simplex_inspect.specs.Validity.{validity_of_signature, validity_of_certificate}
use Rattle.simplex_inspect.specs.declared.validity.Validity.{Validity}

-- How messages are shown: the rules by which an audit judges them, where committees are given, what a certificate lists,
-- and the bytes of payloads and of signatures.
pub record Shown (S D C P G : Type 0) : Type 0 where
  pub rules : Option (Rules S D C P G)
  pub listed : C → List (Attestation S P G)
  pub payload_bytes : D → List ℕ
  pub signature_bytes : G → List ℕ

-- how messages are shown under committees, or without any
abbrev pub shown_of : {S D C P G : Type 0} → (D → List ℕ) → (G → List ℕ) → Scheme S D C P G → Option (Schedule S) →
    Shown S D C P G
shown_of payload_bytes signature_bytes scheme committees = record {
  rules = option_map (rules_of scheme) committees;
  listed = scheme.listed;
  payload_bytes = payload_bytes;
  signature_bytes = signature_bytes;
}

-- the validity of the signature of a vote
abbrev pub signature_validity : {S D C P G : Type 0} → Rules S D C P G → SignedVote D G → Validity
signature_validity rules v = validity_of_signature (is_valid rules v) (rules.size (round_of v.subject).epoch) v.signer

-- the validity of a certificate of a subject
abbrev pub certificate_validity : {S D C P G : Type 0} → Rules S D C P G → SubjectValue D → C → Validity
certificate_validity rules x certificate =
    validity_of_certificate (rules.certified x certificate) (rules.size (round_of x).epoch)
    (quorum_of (rules.size (round_of x).epoch)) (length (rules.listed certificate))
