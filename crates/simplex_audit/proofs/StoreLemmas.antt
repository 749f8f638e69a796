-- Whom a ledger accuses that began with stored evidence.
use Rattle.std.proofs.Common.{◌≡◌, ℕ, ◌+◌, ◌<◌, ◌≤◌, Bool, true, false, List, length, take, get_or, [], ◌∷◌, ◌++◌, map, sym, ap, subst, ◌∙◌, inl, inr, Result, Ok, Err, IfOk, append_assoc, append-nil}
use Rattle.std.specs.Prelude.{◌&&◌, All, Contains, IsTrue}
use Rattle.std.specs.List.{flat_map, filter, list_any}
use Rattle.std.proofs.lemmas.Grind.{flat_map-append}
use Rattle.std.proofs.lemmas.List.{take_more, take_all}
use Rattle.std.proofs.lemmas.List.Elements.{All-append, All-cons, All-contains, All-filter, All-head, All-nil, All-tail, Contains-append_cases, Contains-append_left, Contains-append_right, filter-append}
use Rattle.std.proofs.lemmas.List.Folds.{Any-from_list_any, list_any-from_Any, flat_map-map}
use Rattle.simplex_base.specs.Format.{Format}
use Rattle.simplex_votes.specs.Votes.{SignedVote, is_of}
use Rattle.simplex_evidence.specs.Activity.{votes_in}
use Rattle.simplex_evidence.specs.Contradiction as contradiction
use Rattle.simplex_evidence.specs.declared.types.activity.Activity.{Activity}
use Rattle.simplex_rules.specs.Evidence.{IsEvidence, IsEquivocation}
use Rattle.simplex_rules.specs.Accusation.{Accusation, is_accused}
use Rattle.simplex_rules.specs.Rules.{Rules, valid_votes, is_valid}
use Rattle.simplex_rules.specs.Values.{activity_of, evidence_value}
use Rattle.simplex_rules.specs.declared.evidence.Evidence.{Evidence}
use Rattle.simplex_rules.specs.declared.evidence.Evidence.TheVariants as variants
use Rattle.simplex_audit.specs.Basis.{Basis}
use Rattle.simplex_audit.specs.Guarantees.{EvidenceIsDetermined, HasOneReading}
use Rattle.simplex_stream.specs.Messages.{AreMessages}
use Rattle.simplex_audit.specs.Holding.{IsEvidenceOf, IsStored}

-- what one list contains the other does
abbrev Within : {X : Type 0} → List X → List X → Type 0
Within {X} xs ys = (x : X) → Contains xs x → Contains ys x

any_within : {X : Type 0} (p q : X → Bool) (xs ys : List X) → Within xs ys → ((x : X) → p x ≡ true → q x ≡ true) →
    list_any p xs ≡ true → list_any q ys ≡ true
any_within p q xs ys within more h =
    let found = Any-from_list_any p xs h in
    let at = within found.1 (found.0, found.2, found.3) in
    list_any-from_Any q ys (at.0, found.1, at.1, at.2, more found.1 found.4)

and_more : (a b c : Bool) → (b ≡ true → c ≡ true) → (a && b) ≡ true → (a && c) ≡ true
and_more true b c more h = more h
and_more false b c more h = h

-- more votes accuse more
accused_within : {D G : Type 0} (eq : D → D → Bool) (vs ws : List (SignedVote D G)) (n : Accusation) → Within vs ws →
    IsTrue (is_accused eq vs n) → IsTrue (is_accused eq ws n)
accused_within eq vs ws n within h =
    any_within _ _ vs ws within
    (λ v. and_more (is_of n.round n.signer v) _ _
    (any_within (contradiction.contradicts eq n.kind v) _ vs ws within (λ w yes. yes))) h

valid_append : {S D C P G : Type 0} (rules : Rules S D C P G) (ms ks : List (Activity S D C P G)) →
    valid_votes rules (ms ++ ks) ≡ valid_votes rules ms ++ valid_votes rules ks
valid_append rules ms ks =
    ap (filter (is_valid rules)) (flat_map-append (votes_in rules.listed) ms ks)
    ∙ filter-append (is_valid rules) (flat_map (votes_in rules.listed) ms) (flat_map (votes_in rules.listed) ks)

within_left : {S D C P G : Type 0} (rules : Rules S D C P G) (ms ks : List (Activity S D C P G)) →
    Within (valid_votes rules ms) (valid_votes rules (ms ++ ks))
within_left {S} {D} {C} {P} {G} rules ms ks v h =
    subst (λ (vs : List (SignedVote D G)). Contains vs v) (sym (valid_append rules ms ks))
    (Contains-append_left (valid_votes rules ms) (valid_votes rules ks) v h)

within_right : {S D C P G : Type 0} (rules : Rules S D C P G) (ms ks : List (Activity S D C P G)) →
    Within (valid_votes rules ks) (valid_votes rules (ms ++ ks))
within_right {S} {D} {C} {P} {G} rules ms ks v h =
    subst (λ (vs : List (SignedVote D G)). Contains vs v) (sym (valid_append rules ms ks))
    (Contains-append_right (valid_votes rules ms) (valid_votes rules ks) v h)

within_both : {S D C P G : Type 0} (rules : Rules S D C P G) (ms ls ks : List (Activity S D C P G)) →
    Within (valid_votes rules ms) (valid_votes rules ls) → Within (valid_votes rules (ms ++ ks)) (valid_votes rules (ls ++ ks))
within_both {S} {D} {C} {P} {G} rules ms ls ks within v h =
    elim (Contains-append_cases (valid_votes rules ms) (valid_votes rules ks) v
    (subst (λ (vs : List (SignedVote D G)). Contains vs v) (valid_append rules ms ks) h)) [
      | inl a ↦ within_left rules ls ks v (within v a)
      | inr b ↦ within_right rules ls ks v b
    ]

-- the votes of an evidence are among the votes that it was found in
both_votes : {D G : Type 0} (eq : D → D → Bool) (vs : List (SignedVote D G)) (e : contradiction.Equivocation D G) →
    IsEquivocation eq vs e → All (Contains vs) (e.first ∷ e.second ∷ [])
both_votes eq vs e h =
    All-cons (Contains vs) e.first (e.second ∷ []) h.first_cast
    (All-cons (Contains vs) e.second [] h.second_cast (All-nil (Contains vs)))

votes_of_one : {S D C P G : Type 0} (rules : Rules S D C P G) (vs : List (SignedVote D G)) (e : Evidence S D P G) →
    IsEquivocation rules.eq vs (evidence_value e) → All (Contains vs) (votes_in rules.listed (activity_of e))
votes_of_one rules vs (variants.ConflictingNotarize c) h =
    both_votes rules.eq vs (evidence_value (variants.ConflictingNotarize c)) h
votes_of_one rules vs (variants.ConflictingFinalize c) h =
    both_votes rules.eq vs (evidence_value (variants.ConflictingFinalize c)) h
votes_of_one rules vs (variants.NullifyFinalize c) h = both_votes rules.eq vs (evidence_value (variants.NullifyFinalize c)) h

votes_of_all : {S D C P G : Type 0} (rules : Rules S D C P G) (vs : List (SignedVote D G)) (es : List (Evidence S D P G)) →
    All (IsEquivocation rules.eq vs) (map evidence_value es) →
    All (Contains vs) (flat_map (votes_in rules.listed) (map activity_of es))
votes_of_all rules vs [] h = All-nil (Contains vs)
votes_of_all rules vs (e ∷ es) h =
    All-append (Contains vs) (votes_in rules.listed (activity_of e)) (flat_map (votes_in rules.listed) (map activity_of es))
    (votes_of_one rules vs e (All-head (IsEquivocation rules.eq vs) (evidence_value e) (map evidence_value es) h))
    (votes_of_all rules vs es (All-tail (IsEquivocation rules.eq vs) (evidence_value e) (map evidence_value es) h))

stored_within : {S D C P G : Type 0} (rules : Rules S D C P G) (vs : List (SignedVote D G)) (es : List (Evidence S D P G)) →
    All (IsEquivocation rules.eq vs) (map evidence_value es) → Within (valid_votes rules (map activity_of es)) vs
stored_within rules vs es h v =
    All-contains (Contains vs) (valid_votes rules (map activity_of es)) v (All-filter (is_valid rules) (Contains vs)
    (flat_map (votes_in rules.listed) (map activity_of es)) (votes_of_all rules vs es h))

-- the messages of a piece behind messages that are joined
joined : {M : Type 0} (format : Format M) (bytes piece rest : List ℕ) (messages further : List M) →
    AreMessages format bytes messages [] → AreMessages format piece further rest →
    AreMessages format (bytes ++ piece) (messages ++ further) rest
joined format bytes piece rest messages further are are' = record {
  whole =
      ap (λ (t : List ℕ). t ++ piece) (are.whole ∙ append-nil (flat_map format.encoding messages))
      ∙ (ap (λ (t : List ℕ). flat_map format.encoding messages ++ t) are'.whole
      ∙ (sym (append_assoc (flat_map format.encoding messages) (flat_map format.encoding further) rest)
      ∙ ap (λ (t : List ℕ). t ++ rest) (sym (flat_map-append format.encoding messages further))));
  each = All-append format.is_value messages further are.each are'.each;
  stuck = are'.stuck;
}

-- evidence that is encoded as messages, which have it again, is stored
pub stored : {S D C P G : Type 0} (basis : Basis S D C P G) → EvidenceIsDetermined basis →
    ((other : List ℕ) → HasOneReading basis other) →
    (stream bytes : List ℕ) (es given : List (Evidence S D P G)) → IsEvidenceOf basis stream es → given ≡ es →
    bytes ≡ flat_map (λ e. basis.format.encoding (activity_of e)) given →
    AreMessages basis.format (flat_map basis.format.encoding (map activity_of es)) (map activity_of es) [] →
    IsEvidence basis.rules.eq (valid_votes basis.rules (map activity_of es)) (map evidence_value es) →
    IsStored basis stream bytes
stored {S} {D} {C} {P} {G} basis laws single stream bytes es given is same joined_is are evidence =
    let encoded : bytes ≡ flat_map basis.format.encoding (map activity_of es) =
    joined_is ∙ (ap (flat_map (λ e. basis.format.encoding (activity_of e))) same
    ∙ sym (flat_map-map basis.format.encoding (activity_of {C = C}) es)) in
    let here : AreMessages basis.format bytes (map activity_of es) [] =
    subst (λ (b : List ℕ). AreMessages basis.format b (map activity_of es) []) (sym encoded) are in
    let names = laws.names (map activity_of es) (map evidence_value es) evidence in
    record {
      evidence = es;
      evidence_is = is;
      encoded = encoded;
      again = record { messages = map activity_of es; rest = []; are_messages = here; evidence_is = evidence; names = names };
      only = λ held h. laws.only (map activity_of es) (map evidence_value es) evidence (map evidence_value held)
          (subst (λ (ms : List (Activity S D C P G)). IsEvidence basis.rules.eq (valid_votes basis.rules ms) (map evidence_value
          held)) (single bytes h.messages (map activity_of es) h.rest [] h.are_messages here).0 h.evidence_is);
      reads = λ piece rest further of. joined basis.format bytes piece rest (map activity_of es) further here of;
      then = λ piece rest further held of h.
          let both_are : IsEvidence basis.rules.eq (valid_votes basis.rules (map activity_of es ++ further))
          (map evidence_value held) =
          subst
          (λ (ms : List (Activity S D C P G)). IsEvidence basis.rules.eq (valid_votes basis.rules ms) (map evidence_value held))
          (single (bytes ++ piece) h.messages (map activity_of es ++ further) h.rest rest h.are_messages
          (joined basis.format bytes piece rest (map activity_of es) further here of)).0 h.evidence_is in
          let both = laws.names (map activity_of es ++ further) (map evidence_value held) both_are in
          let inside = stored_within basis.rules (valid_votes basis.rules is.messages) es
          (laws.sound is.messages (map evidence_value es) is.evidence_is) in
          record {
            evidence_is = both_are;
            names = both;
            stay = λ n named. (both n).1 (accused_within basis.rules.eq _ _ n
                (within_left basis.rules (map activity_of es) further) ((names n).0 named));
            more = λ n named.
                (both n).1 (accused_within basis.rules.eq _ _ n (within_right basis.rules (map activity_of es) further) named);
            only = λ n named. accused_within basis.rules.eq _ _ n
                (within_both basis.rules (map activity_of es) is.messages further inside) ((both n).0 named);
          };
    }

-- one value more is encoded behind those before it, and all are when none is left
pub one_more : {X : Type 0} (f : X → List ℕ) (xs : List X) (i : ℕ) (x : X) (old new : List ℕ) → i < length xs →
    x ≡ get_or xs i x → old ≡ flat_map f (take i xs) → new ≡ old ++ f x → new ≡ flat_map f (take (i + 1) xs)
one_more {X} f xs i x old new lt here before after =
    after ∙ (ap (λ (t : List ℕ). t ++ f x) before
    ∙ sym (ap (flat_map f) (take_more xs i x lt ∙ ap (λ (z : X). take i xs ++ z ∷ []) (sym here))
    ∙ (flat_map-append f (take i xs) (x ∷ []) ∙ ap (λ (t : List ℕ). flat_map f (take i xs) ++ t) (append-nil (f x)))))

pub none_left : {X : Type 0} (f : X → List ℕ) (xs : List X) (i : ℕ) (all : List ℕ) → length xs ≤ i →
    all ≡ flat_map f (take i xs) → all ≡ flat_map f xs
none_left f xs i all past is = is ∙ ap (flat_map f) (take_all i xs past)

-- what follows from a result
pub if_ok : {X E : Type 0} (Given Wanted : X → Type 0) → ((x : X) → Given x → Wanted x) → (r : Result X E) → IfOk r Given →
    IfOk r Wanted
if_ok Given Wanted f (Ok x) h = f x h
if_ok Given Wanted f (Err e) h = tt

-- what is stored of a stream is stored of an equal stream
pub stored_same : {S D C P G : Type 0} (basis : Basis S D C P G) (stream same bytes : List ℕ) → stream ≡ same →
    IsStored basis stream bytes → IsStored basis same bytes
stored_same basis stream same bytes e is = subst (λ (xs : List ℕ). IsStored basis xs bytes) e is
