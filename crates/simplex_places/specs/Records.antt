-- The evidence of a report as records, with the places of its votes in the stream.
use Rattle.std.specs.Prelude.{◌≡◌, ℕ, ◌+◌, ◌-◌, ◌<◌, ◌≤◌, ◌^◌, Bool, false, List, length, All, Option, Some, None}
use Rattle.std.specs.BTreeMap.{BTreeMap, get}
use Rattle.std.specs.List.{AllZip}
use Rattle.std.specs.declared.cmp.Ordering.{Ordering}
use Rattle.simplex_scheme.specs.Kind.{kind_of}
use Rattle.simplex_scheme.specs.Subject.{round_of}
use Rattle.simplex_votes.specs.Votes.{SignedVote}
use Rattle.simplex_evidence.specs.Contradiction.{Equivocation}
use Rattle.simplex_evidence.specs.declared.types.activity.Activity.{Activity}
use Rattle.simplex_rules.specs.Accusation.{kind_rank}
use Rattle.simplex_audit.specs.Basis.{Basis}
use Rattle.simplex_audit.specs.Guarantees.{OfMessages}
use Rattle.simplex_audit.specs.Report.{evidence_in}
use Rattle.simplex_audit.specs.declared.audit.Report.{Report}
use Rattle.simplex_places.specs.FirstPlaces.{IsFirstPlace}
use Rattle.simplex_places.specs.Places.{kind_number}
use Rattle.simplex_places.specs.declared.first_places.Carried.{Carried}
use Rattle.simplex_places.specs.declared.places.AttestationPlace.{AttestationPlace}
use Rattle.simplex_places.specs.declared.records.Record.{Record}
use Rattle.simplex_places.specs.declared.records.VotePlace.{VotePlace}

-- The record states whom an evidence accuses, in which round and of what, and the signer and the kind of each vote.
pub record IsOfEvidence {D G : Type 0} (e : Equivocation D G) (found : Record) : Type 0 where
  pub epoch_is : found.epoch ≡ (round_of e.first.subject).epoch
  pub view_is : found.view ≡ (round_of e.first.subject).view
  pub signer_is : found.signer ≡ e.first.signer
  pub kind_is : found.kind ≡ kind_rank e.kind
  pub first_signer_is : found.first_vote.signer ≡ e.first.signer
  pub first_kind_is : found.first_vote.kind ≡ kind_number (kind_of e.first.subject)
  pub second_signer_is : found.second_vote.signer ≡ e.first.signer
  pub second_kind_is : found.second_vote.kind ≡ kind_number (kind_of e.second.subject)

-- a vote of a record, as an attestation: its round is the record's
abbrev pub vote_in : Record → VotePlace → AttestationPlace
vote_in found vote = record {
  epoch = found.epoch;
  view = found.view;
  verdict_place = vote.verdict_place;
  subject_place = vote.subject_place;
  subject_length = vote.subject_length;
  signer = vote.signer;
  kind = vote.kind;
}

-- `s` is a vote as it stands in the first message that carries it, which begins at a place: its subject is behind the tag, its
-- verdict is behind the subject, and both are in the message. `stands` says whether an attestation is the vote, as it stands in
-- the stream.
pub record StandsFirst {M : Type 0} (carries : M → Bool) (stands : AttestationPlace → Type 0) (encoding : M → List ℕ)
    (messages : List M) (message_place : ℕ) (s : AttestationPlace) : Type 0 where
  pub first : IsFirstPlace carries encoding messages message_place
  pub vote_is : stands s
  pub begins : message_place < s.subject_place
  pub before : s.subject_place + s.subject_length ≤ s.verdict_place
  pub ends : s.verdict_place < message_place + length (encoding first.message)

-- The record is that of an evidence, with the places where the first messages begin that carry its votes, and both votes as
-- they stand there.
pub record IsRecord {M D G : Type 0} (carries : SignedVote D G → M → Bool) (stands : SignedVote D G → AttestationPlace → Type 0)
    (encoding : M → List ℕ) (messages : List M) (e : Equivocation D G) (found : Record) : Type 0 where
  pub of_evidence : IsOfEvidence e found
  pub first_stands : StandsFirst (carries e.first) (stands e.first) encoding messages found.first_place
      (vote_in found found.first_vote)
  pub second_stands : StandsFirst (carries e.second) (stands e.second) encoding messages found.second_place
      (vote_in found found.second_vote)

-- They are the records of the report's evidence, one of each in the same order. `carries` says whether a message carries a
-- vote, and `stands` whether an attestation is a vote, as it stands in a stream.
abbrev pub AreRecords : {S D C P G : Type 0} → Basis S D C P G → (SignedVote D G → Activity S D C P G → Bool) →
    (List ℕ → SignedVote D G → AttestationPlace → Type 0) → List ℕ → Report S D P G → List Record → Type 0
AreRecords basis carries stands stream report records =
    OfMessages basis stream (λ messages. AllZip (IsRecord carries (stands stream) basis.format.encoding messages)
    (evidence_in report) records)

-- a vote stands nowhere: each offset is 2^64 - 1, and its subject has no bytes
pub record StandsNowhere (message_place : ℕ) (vote : VotePlace) : Type 0 where
  pub message : message_place ≡ 2 ^ 64 - 1
  pub subject : vote.subject_place ≡ 2 ^ 64 - 1
  pub empty : vote.subject_length ≡ 0
  pub verdict : vote.verdict_place ≡ 2 ^ 64 - 1

-- in the record of an evidence each vote that no message carries stands nowhere
pub record HasNowhere {M D G : Type 0} (carries : SignedVote D G → M → Bool) (messages : List M) (e : Equivocation D G)
    (found : Record) : Type 0 where
  pub first : All (λ m. carries e.first m ≡ false) messages → StandsNowhere found.first_place found.first_vote
  pub second : All (λ m. carries e.second m ≡ false) messages → StandsNowhere found.second_place found.second_vote

-- In the records of the evidence of any report, each vote that no message of this stream carries stands nowhere.
abbrev pub HaveNowhere : {S D C P G : Type 0} → Basis S D C P G → (SignedVote D G → Activity S D C P G → Bool) → List ℕ →
    Report S D P G → List Record → Type 0
HaveNowhere basis carries stream report records =
    OfMessages basis stream (λ messages. AllZip (HasNowhere carries messages) (evidence_in report) records)

-- what was found of a key, if it was
abbrev pub found_of : {X : Type 0} → Option (Option X) → Option X
found_of (Some found) = found
found_of None = None

-- where the message of a vote begins, 2^64 - 1 if the vote was not found
abbrev pub message_at : Option Carried → ℕ
message_at (Some carried) = carried.message_place
message_at None = 2 ^ 64 - 1

-- where a vote of a signer and a kind stands; without a subject at 2^64 - 1 if it was not found
abbrev pub vote_at : ℕ → ℕ → Option Carried → VotePlace
vote_at signer kind (Some carried) = record {
  subject_place = carried.subject_place;
  subject_length = carried.subject_length;
  verdict_place = carried.verdict_place;
  signer = signer;
  kind = kind;
}
vote_at signer kind None = record {
  subject_place = 2 ^ 64 - 1;
  subject_length = 0;
  verdict_place = 2 ^ 64 - 1;
  signer = signer;
  kind = kind;
}

-- the record of an evidence, from what was found of its votes
abbrev pub record_by : {D G K : Type 0} → (K → K → Ordering) → (SignedVote D G → K) → BTreeMap K (Option Carried) →
    Equivocation D G → Record
record_by cmp key_of places e = record {
  epoch = (round_of e.first.subject).epoch;
  view = (round_of e.first.subject).view;
  first_place = message_at (found_of (get cmp places (key_of e.first)));
  second_place = message_at (found_of (get cmp places (key_of e.second)));
  first_vote = vote_at e.first.signer (kind_number (kind_of e.first.subject)) (found_of (get cmp places (key_of e.first)));
  second_vote = vote_at e.first.signer (kind_number (kind_of e.second.subject)) (found_of (get cmp places (key_of e.second)));
  signer = e.first.signer;
  kind = kind_rank e.kind;
}
