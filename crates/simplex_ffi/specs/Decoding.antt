-- The message at the front of some bytes.
use Rattle.std.specs.Prelude.{◌≡◌, ◌⊎◌, ℕ, List, ◌++◌, map}
use Rattle.simplex_base.specs.Format.{Encoded, Format}
use Rattle.simplex_scheme.specs.Subject.{SubjectValue, Notarizes, Nullifies, Finalizes}
use Rattle.simplex_scheme.specs.declared.scheme.Attestation.{Attestation}
use Rattle.simplex_evidence.specs.Activity.{contents_of, votes_in}
use Rattle.simplex_evidence.specs.Contents.{ContentsValue, OneVote, OneCertificate, TwoVotes}
use Rattle.simplex_evidence.specs.declared.types.activity.Activity.{Activity}
use Rattle.simplex_places.specs.Bytes.{AreSomeAt}
use Rattle.simplex_places.specs.Places.{message_places}
use Rattle.simplex_places.specs.declared.places.AttestationPlace.{AttestationPlace}
use Rattle.simplex_shards.specs.declared.index.Row.{Row}
use Rattle.simplex_border.specs.Answer.{IsPut}
use Rattle.simplex_ffi.specs.declared.decoding.MessageHead.{MessageHead}

-- the parent of a proposal; 0 of a round
abbrev pub parent_of : {D : Type 0} → SubjectValue D → ℕ
parent_of (Notarizes p) = p.parent
parent_of (Nullifies r) = 0
parent_of (Finalizes p) = p.parent

-- the parents of what a message holds: of its vote or certificate, and 0; or of both votes
abbrev pub parents_of : {D C G : Type 0} → ContentsValue D C G → ℕ × ℕ
parents_of (OneVote v) = (parent_of v.subject, 0)
parents_of (OneCertificate x c) = (parent_of x, 0)
parents_of (TwoVotes v w) = (parent_of v.subject, parent_of w.subject)

-- what a message is, from its row and its parents
abbrev pub head_of : Row → ℕ × ℕ → MessageHead
head_of row parents = record {
  epoch = row.epoch;
  view = row.view;
  parent = parents.0;
  second_parent = parents.1;
  length = row.length;
  attestations = row.attestations;
  kind = row.kind;
}

-- The head says what a message is, and its attestations stand at the start of the buffer, with 0; or the buffer is too short
-- and as before, with 4. Each attestation is a vote of the message, as it stands in any bytes that the message is at the front
-- of. `row_of` is the row of a message, and `listed` gives the attestations that a certificate lists.
pub record IsGiven {S D C P G : Type 0} (encoding : Activity S D C P G → List ℕ) (payload : Format D) (signature : Format G)
    (listed : C → List (Attestation S P G)) (row_of : ℕ → Activity S D C P G → Row) (message : Activity S D C P G)
    (before after : List AttestationPlace) (head : MessageHead) (status : ℕ) : Type 0 where
  pub head_is : head ≡ head_of (row_of 0 message) (parents_of (contents_of message))
  pub found : List AttestationPlace
  pub found_are : found ≡ map (λ p. p.attestation) (message_places payload signature listed 0 message)
  pub votes_are : (bytes rest : List ℕ) → bytes ≡ encoding message ++ rest →
      AreSomeAt payload signature (votes_in listed message) bytes found
  pub places_are : IsPut found before after status 0

-- A message is at the front of the bytes, and it is given.
pub record IsFrontGiven {S D C P G : Type 0} (format : Format (Activity S D C P G)) (payload : Format D) (signature : Format G)
    (listed : C → List (Attestation S P G)) (row_of : ℕ → Activity S D C P G → Row) (bytes : List ℕ)
    (before after : List AttestationPlace) (head : MessageHead) (status : ℕ) : Type 0 where
  pub message : Activity S D C P G
  pub rest : List ℕ
  pub is_front : Encoded format.is_value format.encoding bytes message rest
  pub is_given : IsGiven format.encoding payload signature listed row_of message before after head status

-- no message is at the front of the bytes
abbrev pub StartsNone : {M : Type 0} → Format M → List ℕ → Type 0
StartsNone {M} format bytes = (message : M) (rest : List ℕ) → Encoded format.is_value format.encoding bytes message rest → ⊥

-- The message at the front of the bytes is given; or there is none, and then the status is 1 and nothing was written.
unfoldable pub IsFront : {S D C P G : Type 0} → Format (Activity S D C P G) → Format D → Format G →
    (C → List (Attestation S P G)) → (ℕ → Activity S D C P G → Row) → List ℕ → List AttestationPlace → List AttestationPlace →
    MessageHead → MessageHead → ℕ → Type 0
IsFront format payload signature listed row_of bytes before after old new status =
    IsFrontGiven format payload signature listed row_of bytes before after new status
    ⊎ (StartsNone format bytes × (status ≡ 1) × (after ≡ before) × (new ≡ old))
