-- The attestations whose signatures a deferred audit has to know.
use Rattle.std.specs.Prelude.{◌≡◌, ℕ, ◌&&◌, if◌then◌else◌, Bool, List, filter, map, nat_lt}
use Rattle.std.specs.BTreeSet.{contains}
use Rattle.simplex_base.specs.Positions.{Round}
use Rattle.simplex_evidence.specs.declared.types.activity.Activity.{Activity}
use Rattle.simplex_detector.specs.Detector.{Recalls}
use Rattle.simplex_rules.specs.Accusation.{round_cmp, signer_cmp, signer_in}
use Rattle.simplex_rules.specs.Rules.{Rules}
use Rattle.simplex_rules.specs.Suspects.{Suspected, is_suspect, is_suspect_round}
use Rattle.simplex_detector.specs.declared.detector.Detector.{Detector}
use Rattle.simplex_rules.specs.declared.judging.SuspectSigners.{SuspectSigners}
use Rattle.simplex_audit.specs.Basis.{Basis}
use Rattle.simplex_stream.specs.Messages.{AreMessages}
use Rattle.simplex_places.specs.Places.{places_along}
use Rattle.simplex_places.specs.declared.places.Placed.{Placed}
use Rattle.simplex_places.specs.declared.places.AttestationPlace.{AttestationPlace}

-- the suspects of messages
abbrev pub suspected_in : {S D C P G : Type 0} → Rules S D C P G → List (Activity S D C P G) → Suspected
suspected_in rules messages = record { signers = is_suspect rules messages; rounds = is_suspect_round rules messages }

-- the suspects that two sets hold
abbrev pub suspected_by : SuspectSigners → Suspected
suspected_by suspects = record {
  signers = λ round signer. contains signer_cmp suspects.signers (signer_in round signer);
  rounds = contains round_cmp suspects.rounds;
}

-- the round of an attestation
abbrev pub round_at : AttestationPlace → Round
round_at p = record { epoch = p.epoch; view = p.view }

-- Whether an attestation has to be verified: one that a certificate lists if its round is suspect and its signer is in the
-- committee of the round's epoch, any other if its signer is suspect in its round.
abbrev pub is_sought : Suspected → (ℕ → ℕ) → Placed → Bool
is_sought suspected size p =
    if p.is_listed then suspected.rounds (round_at p.attestation) && nat_lt p.attestation.signer (size p.attestation.epoch)
    else suspected.signers (round_at p.attestation) p.attestation.signer

-- those of these attestations that pass a test
abbrev pub passing_of : (Placed → Bool) → List Placed → List AttestationPlace
passing_of test places = map (λ p. p.attestation) (filter test places)

-- those of these attestations that have to be verified
abbrev pub sought_of : Suspected → (ℕ → ℕ) → List Placed → List AttestationPlace
sought_of suspected size places = passing_of (is_sought suspected size) places

-- `found` are the attestations of the stream's messages that have to be verified, in the order of the stream. `places_in`
-- gives all attestations of a message that begins at a place.
pub record HaveToBeVerified {S D C P G : Type 0} (basis : Basis S D C P G) (places_in : ℕ → Activity S D C P G → List Placed)
    (stream : List ℕ) (found : List AttestationPlace) : Type 0 where
  pub messages : List (Activity S D C P G)
  pub rest : List ℕ
  pub are_messages : AreMessages basis.format stream messages rest
  pub found_are : found
      ≡ sought_of (suspected_in basis.rules messages) basis.rules.size (places_along places_in basis.format.encoding 0 messages)

-- The stream's messages were read: the detector's state is that of the messages under these rules, and `places` are all their
-- attestations.
pub record AreRead {S D C P G : Type 0} (basis : Basis S D C P G) (rules : Rules S D C P G)
    (places_in : ℕ → Activity S D C P G → List Placed) (stream : List ℕ) (detector : Detector S D P G)
    (places : List Placed) : Type 0 where
  pub messages : List (Activity S D C P G)
  pub rest : List ℕ
  pub are_messages : AreMessages basis.format stream messages rest
  pub recalled : Recalls rules messages detector
  pub places_are : places ≡ places_along places_in basis.format.encoding 0 messages
