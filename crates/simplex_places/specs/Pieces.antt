-- The attestations of the whole messages at the front of a piece.
use Rattle.std.specs.Prelude.{◌≡◌, ℕ, ◌&&◌, Bool, IsTrue, List, length, nat_lt}
use Rattle.std.specs.List.{flat_map}
use Rattle.simplex_base.specs.Positions.{Round}
use Rattle.simplex_evidence.specs.declared.types.activity.Activity.{Activity}
use Rattle.simplex_rules.specs.Independence.{is_from}
use Rattle.simplex_audit.specs.Basis.{Basis}
use Rattle.simplex_stream.specs.Messages.{AreMessages, IsOver}
use Rattle.simplex_places.specs.Places.{places_along}
use Rattle.simplex_places.specs.Repeats.{AreWithFirsts}
use Rattle.simplex_places.specs.Suspects.{passing_of, round_at}
use Rattle.simplex_places.specs.declared.pieces.Piece.{Piece}
use Rattle.simplex_places.specs.declared.places.AttestationPlace.{AttestationPlace}
use Rattle.simplex_places.specs.declared.places.Placed.{Placed}
use Rattle.simplex_places.specs.declared.reading.PlaceReader.{PlaceReader}

-- Whether an attestation has to be verified before an audit from a floor on: its round is at the floor or above it, and its
-- signer is in the committee of the round's epoch.
abbrev pub is_judged : Round → (ℕ → ℕ) → Placed → Bool
is_judged floor size p = is_from floor (round_at p.attestation) && nat_lt p.attestation.signer (size p.attestation.epoch)

-- The messages of some bytes were read: `places` are all their attestations, and the last message ends at `place`.
pub record ArePlaces {S D C P G : Type 0} (basis : Basis S D C P G) (places_in : ℕ → Activity S D C P G → List Placed)
    (bytes : List ℕ) (reader : PlaceReader) (over : Bool) : Type 0 where
  pub messages : List (Activity S D C P G)
  pub rest : List ℕ
  pub are_messages : AreMessages basis.format bytes messages rest
  pub places_are : reader.places.items ≡ places_along places_in basis.format.encoding 0 messages
  pub place_is : reader.place ≡ length (flat_map basis.format.encoding messages)
  pub over_is : IsTrue over → IsOver basis.format.reading rest

-- The attestations of the whole messages at the front of a piece, `whole` bytes together, that have to be verified, in the
-- order of the piece, each with the index of the first of them that is the same, the verdicts apart. A signature has `size`
-- bytes before its verdict. If the piece is over, no message follows the last one, whatever comes. `places_in` gives all
-- attestations of a message that begins at a place.
pub record IsPiece {S D C P G : Type 0} (floor : Round) (basis : Basis S D C P G)
    (places_in : ℕ → Activity S D C P G → List Placed) (size : ℕ) (bytes : List ℕ) (piece : Piece) : Type 0 where
  pub messages : List (Activity S D C P G)
  pub rest : List ℕ
  pub are_messages : AreMessages basis.format bytes messages rest
  pub whole_is : piece.whole ≡ length (flat_map basis.format.encoding messages)
  pub attestations : List AttestationPlace
  pub attestations_are : attestations
      ≡ passing_of (is_judged floor basis.rules.size) (places_along places_in basis.format.encoding 0 messages)
  pub unverified_are : AreWithFirsts bytes size attestations piece.unverified.items
  pub over_is : IsTrue piece.over → IsOver basis.format.reading rest
