-- Places and claims that are read one message after another.
use Rattle.std.proofs.Common.{◌≡◌, ℕ, ◌+◌, List, [], ◌∷◌, ◌++◌, length, sym, ap, ◌∙◌, arith, append_assoc, append-nil, length-append}
use Rattle.std.specs.List.{flat_map}
use Rattle.simplex_stream.specs.PlaceLaws.{place_behind}
use Rattle.simplex_evidence.specs.declared.types.activity.Activity.{Activity}
use Rattle.simplex_detector.specs.DetectorLaws.{recalls_none, recalls_on}
use Rattle.simplex_rules.specs.Rules.{Rules}
use Rattle.simplex_places.specs.Claims.{ReadsClaims, ReadsPlaces}
use Rattle.simplex_places.specs.Places.{places_along}
use Rattle.simplex_places.specs.declared.places.Placed.{Placed}
use Rattle.simplex_places.specs.declared.reading.ClaimReader.{ClaimReader}
use Rattle.simplex_places.specs.declared.reading.PlaceReader.{PlaceReader}

-- the places along messages and further ones
pub along_append : {M : Type 0} (places_in : ℕ → M → List Placed) (encoding : M → List ℕ) (place : ℕ) (ms ks : List M) →
    places_along places_in encoding place (ms ++ ks) ≡ places_along places_in encoding place ms ++
    places_along places_in encoding (place + length (flat_map encoding ms)) ks
along_append places_in encoding place [] ks =
    ap (λ (n : ℕ). places_along places_in encoding n ks) (omega arith)
along_append {M} places_in encoding place (m ∷ ms) ks =
    let from : ℕ → List M → List Placed = places_along places_in encoding in
    let here = places_in place m in
    let next = place + length (encoding m) in
    let at : next + length (flat_map encoding ms) ≡ place + length (encoding m ++ flat_map encoding ms) =
    omega (arith, length-append (encoding m) (flat_map encoding ms)) in
    ap (λ (l : List Placed). here ++ l) (along_append places_in encoding next ms ks)
    ∙ (sym (append_assoc here (from next ms) (from (next + length (flat_map encoding ms)) ks))
    ∙ ap (λ (n : ℕ). (here ++ from next ms) ++ from n ks) at)

module _ {M : Type 0} (places_in : ℕ → M → List Placed) (encoding : M → List ℕ) where
  -- no message was read
  pub places_none : (state : PlaceReader) → ReadsPlaces places_in encoding [] state state
  places_none state = record {
    places_are = sym (append-nil state.places.items);
    place_is = omega arith;
  }

  -- one message more was read
  pub places_more : (ms : List M) (m : M) (a b c : PlaceReader) → ReadsPlaces places_in encoding ms a b →
      ReadsPlaces places_in encoding (m ∷ []) b c → ReadsPlaces places_in encoding (ms ++ m ∷ []) a c
  places_more ms m a b c before one =
      let from : ℕ → List M → List Placed = places_along places_in encoding in
      let noted = a.places.items in
      record {
        places_are = one.places_are ∙ (ap (λ (l : List Placed). l ++ from b.place (m ∷ [])) before.places_are ∙
            (append_assoc noted (from a.place ms) (from b.place (m ∷ [])) ∙
            ap (λ (l : List Placed). noted ++ l)
            (ap (λ (n : ℕ). from a.place ms ++ from n (m ∷ [])) before.place_is ∙
            sym (along_append places_in encoding a.place ms (m ∷ [])))));
        place_is = place_behind encoding a.place b.place c.place ms m before.place_is one.place_is;
      }

module _ {S D C P G : Type 0} (rules : Rules S D C P G) (places_in : ℕ → Activity S D C P G → List Placed)
    (encoding : Activity S D C P G → List ℕ) where
  -- no message was read
  pub claims_none : (state : ClaimReader S D P G) → ReadsClaims rules places_in encoding [] state state
  claims_none state = record {
    recalls = recalls_none rules state.detector;
    reads = places_none places_in encoding state.reader;
  }

  -- one message more was read
  pub claims_more : (ms : List (Activity S D C P G)) (m : Activity S D C P G) (a b c : ClaimReader S D P G) →
      ReadsClaims rules places_in encoding ms a b → ReadsClaims rules places_in encoding (m ∷ []) b c →
      ReadsClaims rules places_in encoding (ms ++ m ∷ []) a c
  claims_more ms m a b c before one = record {
    recalls = recalls_on rules ms (m ∷ []) a.detector b.detector c.detector before.recalls one.recalls;
    reads = places_more places_in encoding ms m a.reader b.reader c.reader before.reads one.reads;
  }
