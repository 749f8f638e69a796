-- Where the attestations of messages stand in a stream.
use Rattle.std.specs.Prelude.{ℕ, Bool, true, false, ◌+◌, ◌-◌, List, [], ◌∷◌, ◌++◌, length}
use Rattle.simplex_base.specs.Format.{Format}
use Rattle.simplex_base.specs.Varint.{number_32}
use Rattle.simplex_scheme.specs.Attestation.{attestation_format}
use Rattle.simplex_scheme.specs.Kind.{kind_of}
use Rattle.simplex_scheme.specs.Subject.{SubjectValue, round_of, message_of}
use Rattle.simplex_scheme.specs.declared.kind.VoteKind.{VoteKind}
use Rattle.simplex_scheme.specs.declared.kind.VoteKind.TheVariants as kinds
use Rattle.simplex_scheme.specs.declared.scheme.Attestation.{Attestation}
use Rattle.simplex_votes.specs.Votes.{SignedVote}
use Rattle.simplex_evidence.specs.declared.types.activity.Activity.{Activity}
use Rattle.simplex_evidence.specs.Activity.{contents_of}
use Rattle.simplex_evidence.specs.Contents.{ContentsValue, OneVote, OneCertificate, TwoVotes}
use Rattle.simplex_places.specs.declared.places.Placed.{Placed}
use Rattle.simplex_places.specs.declared.places.Signed.{Signed}

-- the number of a kind of votes
abbrev pub kind_number : VoteKind → ℕ
kind_number kinds.Notarize = 0
kind_number kinds.Nullify = 1
kind_number kinds.Finalize = 2

-- what was signed, whose bytes begin at a place, and whether a certificate lists its attestations
abbrev pub signed_at : {D : Type 0} → Format D → ℕ → SubjectValue D → Bool → Signed
signed_at payload place x is_listed =
    record { round = round_of x; kind = kind_of x; place = place; size = length (message_of payload x); is_listed = is_listed }

-- the attestation by a signer of what was signed, with its verdict at a place
abbrev pub placed_at : Signed → ℕ → ℕ → Placed
placed_at signed signer verdict = record {
  attestation = record {
    epoch = signed.round.epoch;
    view = signed.round.view;
    verdict_place = verdict;
    subject_place = signed.place;
    subject_length = signed.size;
    signer = signer;
    kind = kind_number signed.kind;
  };
  is_listed = signed.is_listed;
}

-- the place behind the attestation that begins at a place
abbrev pub behind : {S P G : Type 0} → Format G → ℕ → Attestation S P G → ℕ
behind signature place a = place + length ((attestation_format signature).encoding a)

-- the attestations of what was signed, one after another from a place on: the verdict is the last byte of each
abbrev pub places_from : {S P G : Type 0} → Format G → Signed → ℕ → List (Attestation S P G) → List Placed
places_from signature signed place [] = []
places_from signature signed place (a ∷ others) =
    placed_at signed a.signer (behind signature place a - 1) ∷ places_from signature signed (behind signature place a) others

-- the attestation of a vote whose subject begins at a place, with the attestation behind it
abbrev pub vote_places : {S D P G : Type 0} → Format D → Format G → ℕ → SubjectValue D → Attestation S P G → List Placed
vote_places payload signature place x a =
    places_from signature (signed_at payload place x false) (place + length (message_of payload x)) (a ∷ [])

-- the attestations of two votes one after the other
abbrev pub pair_places : {S D P G : Type 0} → Format D → Format G → ℕ → SubjectValue D → Attestation S P G → SubjectValue D →
    Attestation S P G → List Placed
pair_places payload signature place x a y b =
    vote_places payload signature place x a
    ++ vote_places payload signature (place + length (message_of payload x ++ (attestation_format signature).encoding a)) y b

-- the attestations that a certificate lists, from a place on: its subject, their count, and then each
abbrev pub certificate_places : {S D P G : Type 0} → Format D → Format G → ℕ → SubjectValue D →
    List (Attestation S P G) → List Placed
certificate_places payload signature place x attestations =
    places_from signature (signed_at payload place x true)
    (place + length (message_of payload x) + length (number_32.encoding (length attestations))) attestations

-- the attestation of a vote
abbrev pub attestation_in : {S D P G : Type 0} → SignedVote D G → Attestation S P G
attestation_in v = record { signer = v.signer; signature = v.signature }

-- the attestations of what a message holds, from a place on: `listed` gives those that a certificate lists
abbrev pub contents_places : {S D C P G : Type 0} → Format D → Format G → (C → List (Attestation S P G)) → ℕ →
    ContentsValue D C G →
    List Placed
contents_places {S} {P = P} payload signature listed place (OneVote v) =
    vote_places {S = S} {P = P} payload signature place v.subject (attestation_in v)
contents_places payload signature listed place (OneCertificate x c) = certificate_places payload signature place x (listed c)
contents_places {S} {P = P} payload signature listed place (TwoVotes v w) =
    pair_places {S = S} {P = P} payload signature place v.subject (attestation_in v) w.subject (attestation_in w)

-- the attestations of a message that begins at a place with its tag
abbrev pub message_places : {S D C P G : Type 0} → Format D → Format G → (C → List (Attestation S P G)) → ℕ →
    Activity S D C P G →
    List Placed
message_places payload signature listed place m = contents_places payload signature listed (place + 1) (contents_of m)

-- the attestations of messages one after another from a place on
abbrev pub places_along : {M : Type 0} → (ℕ → M → List Placed) → (M → List ℕ) → ℕ → List M → List Placed
places_along places_in encoding place [] = []
places_along places_in encoding place (m ∷ others) =
    places_in place m ++ places_along places_in encoding (place + length (encoding m)) others
