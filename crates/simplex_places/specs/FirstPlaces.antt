-- The first places of sought votes.
use Rattle.std.specs.Prelude.{◌≡◌, ℕ, ◌+◌, Bool, false, cond, List, [], ◌∷◌, ◌++◌, length, map, zip, All, Option, Some, None, IsTrue}
use Rattle.std.specs.BTreeMap.{BTreeMap, get}
use Rattle.std.specs.List.{flat_map}
use Rattle.std.specs.Option.{option_map, option_or}
use Rattle.std.specs.declared.cmp.Ordering.{Ordering}
use Rattle.simplex_base.specs.Format.{Format}
use Rattle.simplex_votes.specs.Votes.{SignedVote}
use Rattle.simplex_evidence.specs.Contradiction.{Equivocation}
use Rattle.simplex_stream.specs.Messages.{AreMessages}
use Rattle.simplex_places.specs.declared.first_places.Carried.{Carried}
use Rattle.simplex_places.specs.declared.places.Placed.{Placed}

-- what is known of a key, if it is sought, after it may have been found again: what was found first stays
abbrev pub or_found : {X : Type 0} → Option (Option X) → Option X → Option (Option X)
or_found known more = option_map (λ found. option_or found more) known

-- what was found, if a test passed
abbrev pub found_if : {X : Type 0} → X → Bool → Option X
found_if found passes = cond passes (Some found) None

-- what stands beside the first of these that passes a test, if one does
abbrev pub found_in : {V X : Type 0} → (V → Bool) → List (V × X) → Option X
found_in test [] = None
found_in test (one ∷ others) = option_or (found_if one.1 (test one.0)) (found_in test others)

-- what is found in the first of these messages in which anything is: the first of all begins at `place`
abbrev pub first_found : {M X : Type 0} → (ℕ → M → Option X) → (M → List ℕ) → ℕ → List M → Option X
first_found find encoding place [] = None
first_found find encoding place (m ∷ others) =
    option_or (find place m) (first_found find encoding (place + length (encoding m)) others)

-- The place is that of the first message that passes a test: the number of bytes of all messages before it.
pub record IsFirstPlace {M : Type 0} (test : M → Bool) (encoding : M → List ℕ) (messages : List M) (place : ℕ) : Type 0 where
  pub before : List M
  pub message : M
  pub others : List M
  pub messages_are : messages ≡ before ++ message ∷ others
  pub passes : IsTrue (test message)
  pub first : All (λ m. test m ≡ false) before
  pub place_is : place ≡ length (flat_map encoding before)

-- an attestation in a message that begins at a place
abbrev pub carried_at : ℕ → Placed → Carried
carried_at place p = record {
  message_place = place;
  subject_place = p.attestation.subject_place;
  subject_length = p.attestation.subject_length;
  verdict_place = p.attestation.verdict_place;
}

-- the votes of a message that begins at a place, each with where it stands: `votes` gives those votes, and `places` where their
-- attestations stand
abbrev pub votes_placed : {M V : Type 0} → (M → List V) → (ℕ → M → List Placed) → ℕ → M → List (V × Carried)
votes_placed votes places place m = zip (votes m) (map (carried_at place) (places place m))

-- those of the votes that are sought and were not found before were noted, each with what stands beside it
abbrev pub Notes : {V X K : Type 0} → (K → K → Ordering) → (K → K → Bool) → (V → K) → List (V × X) → BTreeMap K (Option X) →
    BTreeMap K (Option X) → Type 0
Notes {V} {X} {K} cmp eq key_of votes before after =
    (key : K) → get cmp after key ≡ or_found (get cmp before key) (found_in (λ v. eq key (key_of v)) votes)

-- the votes of messages were noted, each in the first message that has it: `votes` gives those of a message that begins at a
-- place, each with what stands beside it, and the first message begins at `place`
abbrev pub NotesAlong : {M V X K : Type 0} → (K → K → Ordering) → (K → K → Bool) → (V → K) → (ℕ → M → List (V × X)) →
    (M → List ℕ) → ℕ → BTreeMap K (Option X) → BTreeMap K (Option X) → List M → Type 0
NotesAlong {M} {V} {X} {K} cmp eq key_of votes encoding place before after messages =
    (key : K) → get cmp after key ≡
    or_found (get cmp before key) (first_found (λ n m. found_in (λ v. eq key (key_of v)) (votes n m)) encoding place messages)

-- the votes of the stream's messages were noted
pub record AreFound {M V X K : Type 0} (cmp : K → K → Ordering) (eq : K → K → Bool) (key_of : V → K)
    (votes : ℕ → M → List (V × X)) (format : Format M) (stream : List ℕ) (before after : BTreeMap K (Option X)) : Type 0 where
  pub messages : List M
  pub rest : List ℕ
  pub are_messages : AreMessages format stream messages rest
  pub found : NotesAlong cmp eq key_of votes format.encoding 0 before after messages

-- a key is sought and was not found yet
abbrev pub IsSought : {X K : Type 0} → (K → K → Ordering) → BTreeMap K (Option X) → K → Type 0
IsSought cmp places key = get cmp places key ≡ Some None

-- the keys of both votes of an evidence are sought and were not found yet
abbrev pub AreSought : {D G X K : Type 0} → (K → K → Ordering) → (SignedVote D G → K) → BTreeMap K (Option X) →
    Equivocation D G → Type 0
AreSought cmp key_of places e = IsSought cmp places (key_of e.first) × IsSought cmp places (key_of e.second)
