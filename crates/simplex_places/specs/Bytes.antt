-- Which bytes of a stream are the attestations that have to be verified.
use Rattle.std.specs.Prelude.{◌≡◌, ℕ, ◌+◌, ◌<◌, List, ◌++◌, length, take, drop, All, Contains}
use Rattle.std.specs.List.{flat_map}
use Rattle.simplex_base.specs.Format.{Format}
use Rattle.simplex_scheme.specs.Kind.{kind_of}
use Rattle.simplex_scheme.specs.Subject.{round_of, message_of}
use Rattle.simplex_votes.specs.Votes.{SignedVote}
use Rattle.simplex_evidence.specs.Activity.{votes_in}
use Rattle.simplex_evidence.specs.declared.types.activity.Activity.{Activity}
use Rattle.simplex_audit.specs.Basis.{Basis}
use Rattle.simplex_stream.specs.Messages.{AreMessages}
use Rattle.simplex_places.specs.Places.{kind_number}
use Rattle.simplex_places.specs.declared.places.AttestationPlace.{AttestationPlace}

-- `s` is this vote, as it stands in the stream: the bytes of its subject are those that are signed, the proposal or the round,
-- and the bytes up to its verdict end with the signature.
pub record IsVoteAt {D G : Type 0} (payload : Format D) (signature : Format G) (stream : List ℕ) (v : SignedVote D G)
    (s : AttestationPlace) : Type 0 where
  pub epoch_is : s.epoch ≡ (round_of v.subject).epoch
  pub view_is : s.view ≡ (round_of v.subject).view
  pub kind_is : s.kind ≡ kind_number (kind_of v.subject)
  pub signer_is : s.signer ≡ v.signer
  pub subject_is : take s.subject_length (drop s.subject_place stream) ≡ message_of payload v.subject
  pub within : s.verdict_place < length stream
  pub before : List ℕ
  pub signature_is : take (s.verdict_place + 1) stream ≡ before ++ signature.encoding v.signature

-- each is a vote of the stream's messages, as it stands in the stream
pub record AreVotesAt {S D C P G : Type 0} (basis : Basis S D C P G) (payload : Format D) (signature : Format G)
    (stream : List ℕ) (found : List AttestationPlace) : Type 0 where
  pub messages : List (Activity S D C P G)
  pub rest : List ℕ
  pub are_messages : AreMessages basis.format stream messages rest
  pub each : All (λ s. (v : SignedVote D G) × Contains (flat_map (votes_in basis.rules.listed) messages) v
      × IsVoteAt payload signature stream v s) found

-- each is one of these votes, as it stands in the bytes
abbrev pub AreSomeAt : {D G : Type 0} → Format D → Format G → List (SignedVote D G) → List ℕ → List AttestationPlace → Type 0
AreSomeAt {D} {G} payload signature votes bytes found =
    All (λ s. (v : SignedVote D G) × Contains votes v × IsVoteAt payload signature bytes v s) found
