-- The places and the claims of one message, and of all that were read.
use Rattle.std.proofs.Common.{◌≡◌, ℕ, ◌+◌, Bool, IsTrue, List, [], ◌∷◌, ◌++◌, length, Option, sym, ap, ◌∙◌, arith, append-nil}
use Rattle.std.specs.List.{flat_map}
use Rattle.simplex_base.specs.declared.codec.error.Error.{Error}
use Rattle.simplex_stream.specs.Messages.{IsOver, IsStop}
use Rattle.simplex_stream.specs.PlaceLaws.{place_behind_one}
use Rattle.simplex_stream.specs.Progress.{IsProgress}
use Rattle.simplex_evidence.specs.declared.types.activity.Activity.{Activity}
use Rattle.simplex_detector.specs.Detector.{Recalls}
use Rattle.simplex_rules.specs.Rules.{Rules}
use Rattle.simplex_audit.specs.Basis.{Basis}
use Rattle.simplex_places.specs.Claims.{ReadsClaims, ReadsPlaces}
use Rattle.simplex_places.specs.Pieces.{ArePlaces}
use Rattle.simplex_places.specs.Places.{places_along}
use Rattle.simplex_places.specs.Suspects.{AreRead}
use Rattle.simplex_places.specs.declared.places.Placed.{Placed}
use Rattle.simplex_places.specs.declared.reading.ClaimReader.{ClaimReader}
use Rattle.simplex_places.specs.declared.reading.PlaceReader.{PlaceReader}

module _ {M : Type 0} (places_in : ℕ → M → List Placed) where
  -- one message was read
  pub places_one : (encoding : M → List ℕ) (m : M) (size : ℕ) (a b : PlaceReader) → size ≡ length (encoding m) →
      b.places.items ≡ a.places.items ++ places_in a.place m → b.place ≡ a.place + size →
      ReadsPlaces places_in encoding (m ∷ []) a b
  places_one encoding m size a b len grown moved =
      let here : List Placed → List Placed = λ l. a.places.items ++ l in
      record {
        places_are = grown ∙ ap here (sym (append-nil (places_in a.place m)));
        place_is = place_behind_one encoding a.place b.place size m len moved;
      }

  -- all messages were read
  pub places_all : (encoding : M → List ℕ) (ms : List M) (old new : PlaceReader) → old.places.items ≡ [] → old.place ≡ 0 →
      ReadsPlaces places_in encoding ms old new → new.places.items ≡ places_along places_in encoding 0 ms
  places_all encoding ms old new empty start reads =
      let from : ℕ → List M → List Placed = places_along places_in encoding in
      reads.places_are ∙ (ap (λ (l : List Placed). l ++ from old.place ms) empty ∙ ap (λ (n : ℕ). from n ms) start)

module _ {S D C P G : Type 0} (places_in : ℕ → Activity S D C P G → List Placed) where
  -- the places of all messages were read
  pub read_all : (basis : Basis S D C P G) (old new : PlaceReader) (bytes rest : List ℕ) (read : ℕ) (stop : Option Error)
      (over : Bool) → old.places.items ≡ [] → old.place ≡ 0 →
      (IsTrue over → IsStop basis.format.reading rest stop → IsOver basis.format.reading rest) →
      IsProgress basis.format (λ ms. ReadsPlaces places_in basis.format.encoding ms old new) bytes rest read stop →
      ArePlaces basis places_in bytes new over
  read_all basis old new bytes rest read stop over empty start ends p =
      let size = length (flat_map basis.format.encoding p.messages) in
      record {
        messages = p.messages;
        rest = rest;
        are_messages = p.are_messages;
        places_are = places_all places_in basis.format.encoding p.messages old new empty start p.recorded;
        place_is = omega (arith, p.recorded.place_is, start);
        over_is = λ is. ends is p.stop_is;
      }

module _ {S D C P G : Type 0} (rules : Rules S D C P G) (places_in : ℕ → Activity S D C P G → List Placed) where
  -- all messages were read
  pub claims_all : (basis : Basis S D C P G) (old new : ClaimReader S D P G) (stream rest : List ℕ) (read : ℕ)
      (stop : Option Error) → Recalls rules [] old.detector → old.reader.places.items ≡ [] → old.reader.place ≡ 0 →
      IsProgress basis.format (λ ms. ReadsClaims rules places_in basis.format.encoding ms old new) stream rest read stop →
      AreRead basis rules places_in stream new.detector new.reader.places.items
  claims_all basis old new stream rest read stop nothing empty start p = record {
    messages = p.messages;
    rest = rest;
    are_messages = p.are_messages;
    recalled = p.recorded.recalls [] nothing;
    places_are = places_all places_in basis.format.encoding p.messages old.reader new.reader empty start p.recorded.reads;
  }
