-- What readers of places and of claims do with messages.
use Rattle.std.specs.Prelude.{◌≡◌, ℕ, ◌+◌, List, ◌++◌, length}
use Rattle.std.specs.List.{flat_map}
use Rattle.simplex_evidence.specs.declared.types.activity.Activity.{Activity}
use Rattle.simplex_detector.specs.Detector.{RecallsMore}
use Rattle.simplex_rules.specs.Rules.{Rules}
use Rattle.simplex_places.specs.Places.{places_along}
use Rattle.simplex_places.specs.declared.places.Placed.{Placed}
use Rattle.simplex_places.specs.declared.reading.ClaimReader.{ClaimReader}
use Rattle.simplex_places.specs.declared.reading.PlaceReader.{PlaceReader}

-- the attestations of these messages were appended, the first message beginning at the place: `places_in` gives the
-- attestations of a message that begins at a place
pub record ReadsPlaces {M : Type 0} (places_in : ℕ → M → List Placed) (encoding : M → List ℕ) (messages : List M)
    (old new : PlaceReader) : Type 0 where
  pub places_are : new.places.items ≡ old.places.items ++ places_along places_in encoding old.place messages
  pub place_is : new.place ≡ old.place + length (flat_map encoding messages)

-- the detector recorded these messages, and their attestations were appended
pub record ReadsClaims {S D C P G : Type 0} (rules : Rules S D C P G) (places_in : ℕ → Activity S D C P G → List Placed)
    (encoding : Activity S D C P G → List ℕ) (messages : List (Activity S D C P G))
    (old new : ClaimReader S D P G) : Type 0 where
  pub recalls : RecallsMore rules messages old.detector new.detector
  pub reads : ReadsPlaces places_in encoding messages old.reader new.reader
