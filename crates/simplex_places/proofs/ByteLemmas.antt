-- The attestations of messages are votes whose bytes stand where the places say.
use Rattle.std.proofs.Common.{◌≡◌, ℕ, ◌+◌, Bool, List, [], ◌∷◌, ◌++◌, length, map, sym, ap, subst, ◌∙◌, arith, append_assoc, length-append}
use Rattle.std.specs.Prelude.{All, Contains, filter}
use Rattle.std.specs.List.{AllZip, flat_map}
use Rattle.std.proofs.lemmas.List.Elements.{All-nil, All-cons, All-append, All-map, All-filter, Contains-get_or, Contains-append_left, Contains-append_right}
use Rattle.simplex_base.specs.Format.{Format}
use Rattle.simplex_scheme.specs.declared.scheme.Attestation.{Attestation}
use Rattle.simplex_schemes.specs.Listed.{listed_encoding}
use Rattle.simplex_votes.specs.Votes.{SignedVote}
use Rattle.simplex_evidence.specs.Activity.{activity_encoding, votes_in}
use Rattle.simplex_evidence.specs.declared.types.activity.Activity.{Activity}
use Rattle.simplex_places.specs.Bytes.{AreSomeAt, IsVoteAt}
use Rattle.simplex_places.specs.Places.{message_places, places_along}
use Rattle.simplex_places.specs.Suspects.{passing_of}
use Rattle.simplex_places.specs.declared.places.Placed.{Placed}
use Rattle.simplex_places.specs.declared.places.AttestationPlace.{AttestationPlace}
use Rattle.simplex_places.proofs.StandingLemmas.{Stands, message_stands}

-- each of those that stand beside votes is such a vote
module _ {D G : Type 0} (payload : Format D) (signature : Format G) (stream : List ℕ) (Cast : SignedVote D G → Type 0) where
  -- `s` is such a vote, as it stands in the stream
  abbrev pub IsCast : AttestationPlace → Type 0
  IsCast s = (v : SignedVote D G) × Cast v × IsVoteAt payload signature stream v s

  abbrev pub IsPlaced : Placed → Type 0
  IsPlaced p = IsCast p.attestation

  all_cast : (from to : ℕ) (vs : List (SignedVote D G)) (ps : List Placed) →
      AllZip (Stands payload signature stream from to) vs ps → ((v : SignedVote D G) → Contains vs v → Cast v) →
      All IsPlaced ps
  all_cast from to [] [] stand cast = All-nil IsPlaced
  all_cast from to [] (p ∷ ps) stand cast = absurd stand
  all_cast from to (v ∷ vs) [] stand cast = absurd stand
  all_cast from to (v ∷ vs) (p ∷ ps) stand cast =
      All-cons IsPlaced p ps (v, cast v (Contains-get_or (v ∷ vs) 0 v (omega arith)), stand.0.vote_is)
      (all_cast from to vs ps stand.1 (λ w c. cast w (Contains-append_right (v ∷ []) vs w c)))

-- `Cast` holds of the votes of the messages. Certificates are encoded as the attestations that they list.
module _ {S D C P G : Type 0} (eq : D → D → Bool) (payload : Format D) (certificate : C → List ℕ) (signature : Format G)
    (listed : C → List (Attestation S P G))
    (counted : (c : C) → certificate c ≡ listed_encoding signature (listed c)) (stream : List ℕ)
    (Cast : SignedVote D G → Type 0) where
  abbrev encoded : Activity S D C P G → List ℕ
  encoded m = activity_encoding eq payload certificate signature m

  abbrev Is : Placed → Type 0
  Is = IsPlaced payload signature stream Cast

  -- the attestations of a message, behind some bytes
  pub one_cast : (front tail : List ℕ) (m : Activity S D C P G) → stream ≡ front ++ (encoded m ++ tail) →
      ((v : SignedVote D G) → Contains (votes_in listed m) v → Cast v) →
      All Is (message_places payload signature listed (length front) m)
  one_cast front tail m whole cast =
      all_cast payload signature stream Cast (length front + 1) (length front + length (encoded m)) (votes_in listed m)
      (message_places payload signature listed (length front) m)
      (message_stands eq payload certificate signature listed counted stream front tail m whole) cast

  -- messages one after another, behind some bytes
  along_stands : (front tail : List ℕ) (ms : List (Activity S D C P G)) →
      stream ≡ front ++ (flat_map encoded ms ++ tail) →
      ((v : SignedVote D G) → Contains (flat_map (votes_in listed) ms) v → Cast v) →
      All Is (places_along (message_places payload signature listed) encoded (length front) ms)
  along_stands front tail [] whole cast = All-nil Is
  along_stands front tail (m ∷ ms) whole cast =
      let place = length front in
      let places_in : ℕ → Activity S D C P G → List Placed = message_places payload signature listed in
      let others = flat_map encoded ms ++ tail in
      let votes = votes_in listed m in
      let further = flat_map (votes_in listed) ms in
      let here : stream ≡ front ++ (encoded m ++ others) =
      whole ∙ ap (λ (l : List ℕ). front ++ l) (append_assoc (encoded m) (flat_map encoded ms) tail) in
      All-append Is (places_in place m) (places_along places_in encoded (place + length (encoded m)) ms)
      (one_cast front others m here (λ v c. cast v (Contains-append_left votes further v c)))
      (subst (λ (n : ℕ). All Is (places_along places_in encoded n ms)) (length-append front (encoded m))
      (along_stands (front ++ encoded m) tail ms (here ∙ sym (append_assoc front (encoded m) others))
      (λ v c. cast v (Contains-append_right votes further v c))))

  -- the attestations that pass a test
  pub passing_stand : (test : Placed → Bool) (ms : List (Activity S D C P G)) (tail : List ℕ) →
      stream ≡ flat_map encoded ms ++ tail →
      ((v : SignedVote D G) → Contains (flat_map (votes_in listed) ms) v → Cast v) →
      All (IsCast payload signature stream Cast)
      (passing_of test (places_along (message_places payload signature listed) encoded 0 ms))
  passing_stand test ms tail whole cast =
      let places = places_along (message_places payload signature listed) encoded 0 ms in
      All-map (IsCast payload signature stream Cast) (λ (p : Placed). p.attestation) (filter test places)
      (All-filter test Is places (along_stands [] tail ms whole cast))

-- the attestations of one message at the front of some bytes
pub front_stands : (S P : Type 0) {D C G : Type 0} (eq : D → D → Bool) (payload : Format D) (certificate : C → List ℕ)
    (signature : Format G) (listed : C → List (Attestation S P G))
    (counted : (c : C) → certificate c ≡ listed_encoding signature (listed c)) (m : Activity S D C P G) (bytes rest : List ℕ) →
    bytes ≡ activity_encoding eq payload certificate signature m ++ rest →
    AreSomeAt payload signature (votes_in listed m) bytes
    (map (λ p. p.attestation) (message_places payload signature listed 0 m))
front_stands S P eq payload certificate signature listed counted m bytes rest is =
    let cast = Contains (votes_in listed m) in
    All-map (IsCast payload signature bytes cast) (λ (p : Placed). p.attestation)
    (message_places payload signature listed 0 m)
    (one_cast eq payload certificate signature listed counted bytes cast [] rest m is (λ v c. c))
