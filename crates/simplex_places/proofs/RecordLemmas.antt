-- The records of evidence whose votes were found.
use Rattle.std.proofs.Common.{◌≡◌, ℕ, ◌+◌, ◌==◌, ◌&&◌, Bool, true, false, Option, Some, None, List, [], ◌∷◌, ◌++◌, length, map, BTreeMap, Ordering, true≢false, refl, sym, ap, subst, ◌∙◌, arith, zero-add}
use Rattle.std.specs.Prelude.{All, Contains, filter}
use Rattle.std.specs.BTreeMap.{get}
use Rattle.std.specs.List.{AllZip, flat_map, list_any}
use Rattle.std.proofs.lemmas.Bool.{and_parts, eqb-true}
use Rattle.std.proofs.lemmas.List.Elements.{All-head, All-tail}
use Rattle.simplex_base.specs.Format.{Format}
use Rattle.simplex_base.specs.Varint.{number_64}
use Rattle.simplex_base.specs.Positions.{Round, round_format, same_round}
use Rattle.simplex_scheme.specs.Kind.{kind_of}
use Rattle.simplex_scheme.specs.Proposal.{proposal_format}
use Rattle.simplex_scheme.specs.Subject.{SubjectValue, Notarizes, Nullifies, Finalizes, message_of, round_of}
use Rattle.simplex_scheme.specs.declared.proposal.Proposal.{Proposal}
use Rattle.simplex_votes.specs.Votes.{SignedVote, is_of, same_proposal}
use Rattle.simplex_evidence.specs.Contradiction.{Equivocation, clash}
use Rattle.simplex_rules.specs.Evidence.{IsEquivocation}
use Rattle.simplex_places.specs.Bytes.{IsVoteAt}
use Rattle.simplex_places.specs.FirstPlaces.{AreSought, IsSought, NotesAlong, carried_at, first_found, found_in, or_found, votes_placed}
use Rattle.simplex_places.specs.Places.{kind_number}
use Rattle.simplex_places.specs.Records.{HasNowhere, IsOfEvidence, IsRecord, StandsFirst, StandsNowhere, found_of, message_at, record_by, vote_at}
use Rattle.simplex_places.specs.Votes.{same_signed_vote, same_subject}
use Rattle.simplex_places.specs.declared.first_places.Carried.{Carried}
use Rattle.simplex_places.specs.declared.places.AttestationPlace.{AttestationPlace}
use Rattle.simplex_places.specs.declared.places.Placed.{Placed}
use Rattle.simplex_places.proofs.PlaceLemmas.{any_kept, first_stands, found_none, found_some, none_stands}
use Rattle.simplex_places.proofs.StandingLemmas.{Stands}

-- the signer and the kind of a vote, wherever it stands
signer_kept : (signer kind : ℕ) (found : Option Carried) → (vote_at signer kind found).signer ≡ signer
signer_kept signer kind None = refl
signer_kept signer kind (Some carried) = refl

kind_kept : (signer kind : ℕ) (found : Option Carried) → (vote_at signer kind found).kind ≡ kind
kind_kept signer kind None = refl
kind_kept signer kind (Some carried) = refl

-- a record by what was found is of its evidence
of_evidence : {D G K : Type 0} (cmp : K → K → Ordering) (key_of : SignedVote D G → K) (places : BTreeMap K (Option Carried))
    (e : Equivocation D G) → IsOfEvidence e (record_by cmp key_of places e)
of_evidence cmp key_of places e = record {
  epoch_is = refl;
  view_is = refl;
  signer_is = refl;
  kind_is = refl;
  first_signer_is = signer_kept e.first.signer (kind_number (kind_of e.first.subject))
      (found_of (get cmp places (key_of e.first)));
  first_kind_is = kind_kept e.first.signer (kind_number (kind_of e.first.subject))
      (found_of (get cmp places (key_of e.first)));
  second_signer_is = signer_kept e.first.signer (kind_number (kind_of e.second.subject))
      (found_of (get cmp places (key_of e.second)));
  second_kind_is = kind_kept e.first.signer (kind_number (kind_of e.second.subject))
      (found_of (get cmp places (key_of e.second)));
}

-- the records of some evidence are of it, for any places
pub all_of_evidence : {D G K E : Type 0} (cmp : K → K → Ordering) (key_of : SignedVote D G → K)
    (places : BTreeMap K (Option Carried)) (value : E → Equivocation D G) (es : List E) →
    AllZip IsOfEvidence (map value es) (map (λ e. record_by cmp key_of places (value e)) es)
all_of_evidence cmp key_of places value [] = tt
all_of_evidence cmp key_of places value (e ∷ es) =
    (of_evidence cmp key_of places (value e), all_of_evidence cmp key_of places value es)

-- ---- votes that are the same have the same bytes

round_is : (a b : Round) → same_round a b ≡ true → a ≡ b
round_is a b same =
    let both = and_parts (a.epoch == b.epoch) (a.view == b.view) same in
    ap (λ (n : ℕ). record { epoch = n; view = a.view }) (eqb-true a.epoch b.epoch both.0)
    ∙ ap (λ (n : ℕ). record { epoch = b.epoch; view = n }) (eqb-true a.view b.view both.1)

module _ {D G : Type 0} (payload : Format D) (signature : Format G) (payload_eq : D → D → Bool) (signature_eq : G → G → Bool)
    (payload_is : (x y : D) → payload_eq x y ≡ true → payload.encoding x ≡ payload.encoding y)
    (signature_is : (x y : G) → signature_eq x y ≡ true → signature.encoding x ≡ signature.encoding y) where
  proposal_is : (p q : Proposal D) → same_proposal payload_eq p q ≡ true →
      (proposal_format payload).encoding p ≡ (proposal_format payload).encoding q
  proposal_is p q same =
      let parts = and_parts (same_round p.round q.round) ((p.parent == q.parent) && payload_eq p.payload q.payload) same in
      let more = and_parts (p.parent == q.parent) (payload_eq p.payload q.payload) parts.1 in
      ap (λ (r : Round). round_format.encoding r ++ (number_64.encoding p.parent ++ payload.encoding p.payload))
      (round_is p.round q.round parts.0)
      ∙ (ap (λ (n : ℕ). round_format.encoding q.round ++ (number_64.encoding n ++ payload.encoding p.payload))
      (eqb-true p.parent q.parent more.0)
      ∙ ap (λ (l : List ℕ). round_format.encoding q.round ++ (number_64.encoding q.parent ++ l))
      (payload_is p.payload q.payload more.1))

  subject_is : (x y : SubjectValue D) → same_subject payload_eq x y ≡ true → message_of payload x ≡ message_of payload y
  subject_is (Notarizes p) (Notarizes q) same = proposal_is p q same
  subject_is (Notarizes p) (Nullifies s) same = absurd (true≢false (sym same))
  subject_is (Notarizes p) (Finalizes q) same = absurd (true≢false (sym same))
  subject_is (Nullifies r) (Notarizes q) same = absurd (true≢false (sym same))
  subject_is (Nullifies r) (Nullifies s) same = ap round_format.encoding (round_is r s same)
  subject_is (Nullifies r) (Finalizes q) same = absurd (true≢false (sym same))
  subject_is (Finalizes p) (Notarizes q) same = absurd (true≢false (sym same))
  subject_is (Finalizes p) (Nullifies s) same = absurd (true≢false (sym same))
  subject_is (Finalizes p) (Finalizes q) same = proposal_is p q same

  -- a vote of a round, a signer and a kind stands where one stands that is the same
  pub same_stands : (stream : List ℕ) (v w : SignedVote D G) (s : AttestationPlace) (epoch view signer kind : ℕ) →
      same_signed_vote payload_eq signature_eq v w ≡ true → IsVoteAt payload signature stream w s →
      epoch ≡ (round_of v.subject).epoch → view ≡ (round_of v.subject).view → signer ≡ v.signer →
      kind ≡ kind_number (kind_of v.subject) →
      IsVoteAt payload signature stream v (record {
        epoch = epoch;
        view = view;
        verdict_place = s.verdict_place;
        subject_place = s.subject_place;
        subject_length = s.subject_length;
        signer = signer;
        kind = kind;
      })
  same_stands stream v w s epoch view signer kind same at of_epoch of_view of_signer of_kind =
      let parts = and_parts (same_subject payload_eq v.subject w.subject)
      ((v.signer == w.signer) && signature_eq v.signature w.signature) same in
      let more = and_parts (v.signer == w.signer) (signature_eq v.signature w.signature) parts.1 in
      record {
        epoch_is = of_epoch;
        view_is = of_view;
        kind_is = of_kind;
        signer_is = of_signer;
        subject_is = at.subject_is ∙ sym (subject_is v.subject w.subject parts.0);
        within = at.within;
        before = at.before;
        signature_is = at.signature_is
            ∙ ap (λ (l : List ℕ). at.before ++ l) (sym (signature_is v.signature w.signature more.1));
      }

-- ---- what was found of votes that were sought

-- Votes are the same where their keys are equal, every vote is itself, and what was found of a key stands in the first message
-- with a vote of that key. The votes of messages stand in the stream where their places say.
module _ {M D G K : Type 0} (cmp : K → K → Ordering) (eq : K → K → Bool) (key_of : SignedVote D G → K)
    (payload : Format D) (signature : Format G) (payload_eq : D → D → Bool) (signature_eq : G → G → Bool)
    (payload_is : (x y : D) → payload_eq x y ≡ true → payload.encoding x ≡ payload.encoding y)
    (signature_is : (x y : G) → signature_eq x y ≡ true → signature.encoding x ≡ signature.encoding y)
    (alike : (v w : SignedVote D G) → eq (key_of v) (key_of w) ≡ same_signed_vote payload_eq signature_eq v w)
    (itself : (v : SignedVote D G) → same_signed_vote payload_eq signature_eq v v ≡ true)
    (votes : M → List (SignedVote D G)) (places : ℕ → M → List Placed) (keep : SignedVote D G → Bool) (encoding : M → List ℕ)
    (stream : List ℕ) (messages : List M)
    (each : (before : List M) (m : M) (others : List M) → messages ≡ before ++ m ∷ others → (place : ℕ) →
    place ≡ length (flat_map encoding before) →
    AllZip (Stands payload signature stream (place + 1) (place + length (encoding m))) (votes m) (places place m))
    (before after : BTreeMap K (Option Carried))
    (found : NotesAlong cmp eq key_of (votes_placed votes places) encoding 0 before after messages) where
  -- whether a message carries a vote
  abbrev has : SignedVote D G → M → Bool
  has v m = list_any (same_signed_vote payload_eq signature_eq v) (votes m)

  -- a vote of a record, as an attestation
  abbrev vote_by : ℕ → ℕ → ℕ → ℕ → Option Carried → AttestationPlace
  vote_by epoch view signer kind carried = record {
    epoch = epoch;
    view = view;
    verdict_place = (vote_at signer kind carried).verdict_place;
    subject_place = (vote_at signer kind carried).subject_place;
    subject_length = (vote_at signer kind carried).subject_length;
    signer = (vote_at signer kind carried).signer;
    kind = (vote_at signer kind carried).kind;
  }

  -- a vote that was sought
  vote_stands : (v : SignedVote D G) (epoch view signer kind : ℕ) → IsSought cmp before (key_of v) →
      Contains (filter keep (flat_map votes messages)) v → epoch ≡ (round_of v.subject).epoch →
      view ≡ (round_of v.subject).view → signer ≡ v.signer → kind ≡ kind_number (kind_of v.subject) →
      StandsFirst (has v) (IsVoteAt payload signature stream v) encoding messages
      (message_at (found_of (get cmp after (key_of v)))) (vote_by epoch view signer kind (found_of (get cmp after (key_of v))))
  vote_stands v epoch view signer kind sought cast of_epoch of_view of_signer of_kind =
      let is_it : SignedVote D G → Bool = λ w. eq (key_of v) (key_of w) in
      let test : M → Bool = λ m. list_any is_it (votes m) in
      let find : ℕ → M → Option Carried = λ n m. found_in is_it (votes_placed votes places n m) in
      let (p, at, is) = first_stands test find encoding
      (λ n m none. found_none is_it (votes m) (map (carried_at n) (places n m)) none) 0 messages
      (any_kept is_it keep votes messages v cast (alike v v ∙ itself v)) in
      let place = 0 + p in
      let place_is = zero-add p ∙ at.place_is in
      let (w, y, passes, stands, here) = found_some is_it (carried_at place)
      (Stands payload signature stream (place + 1) (place + length (encoding at.message))) (votes at.message)
      (places place at.message) (each at.before at.message at.others at.messages_are place place_is) at.passes in
      let got : found_of (get cmp after (key_of v)) ≡ Some (carried_at place y) =
      ap found_of (found (key_of v)
      ∙ (ap (λ (known : Option (Option Carried)). or_found known (first_found find encoding 0 messages)) sought
      ∙ ap (or_found (Some None)) (is (carried_at place y) here))) in
      let agree : (λ (m : M). list_any is_it (votes m)) ≡ has v = λ i m. list_any (λ u. alike v u i) (votes m) in
      subst (λ (o : Option Carried). StandsFirst (has v) (IsVoteAt payload signature stream v) encoding messages (message_at o)
      (vote_by epoch view signer kind o)) (sym got)
      (record {
        first = record {
          before = at.before;
          message = at.message;
          others = at.others;
          messages_are = at.messages_are;
          passes = subst (λ (passes : M → Bool). passes at.message ≡ true) agree at.passes;
          first = subst (λ (passes : M → Bool). All (λ m. passes m ≡ false) at.before) agree at.first;
          place_is = place_is;
        };
        vote_is = same_stands payload signature payload_eq signature_eq payload_is signature_is stream v w y.attestation epoch
            view signer kind (sym (alike v w) ∙ passes) stands.vote_is of_epoch of_view of_signer of_kind;
        begins = omega (arith, stands.begins);
        before = stands.before;
        ends = stands.ends;
      })

  -- an evidence whose votes were sought
  record_stands : (e : Equivocation D G) → IsEquivocation payload_eq (filter keep (flat_map votes messages)) e →
      AreSought cmp key_of before e →
      IsRecord has (IsVoteAt payload signature stream) encoding messages e (record_by cmp key_of after e)
  record_stands e casts sought =
      let is_same : Bool = is_of (round_of e.first.subject) e.first.signer e.second in
      let parts = and_parts is_same (clash payload_eq e.kind e.first.subject e.second.subject) casts.contradict in
      let same = and_parts (same_round (round_of e.second.subject) (round_of e.first.subject))
      (e.second.signer == e.first.signer) parts.0 in
      let round = round_is (round_of e.second.subject) (round_of e.first.subject) same.0 in
      let signer = eqb-true e.second.signer e.first.signer same.1 in
      record {
        of_evidence = of_evidence cmp key_of after e;
        first_stands = vote_stands e.first (round_of e.first.subject).epoch (round_of e.first.subject).view e.first.signer
            (kind_number (kind_of e.first.subject)) sought.0 casts.first_cast refl refl refl refl;
        second_stands = vote_stands e.second (round_of e.first.subject).epoch (round_of e.first.subject).view e.first.signer
            (kind_number (kind_of e.second.subject)) sought.1 casts.second_cast (sym (ap (λ (r : Round). r.epoch) round))
            (sym (ap (λ (r : Round). r.view) round)) (sym signer) refl;
      }

  -- all of some evidence
  pub records_stand : {E : Type 0} (value : E → Equivocation D G) (es : List E) →
      All (IsEquivocation payload_eq (filter keep (flat_map votes messages))) (map value es) →
      All (λ e. AreSought cmp key_of before (value e)) es →
      AllZip (IsRecord has (IsVoteAt payload signature stream) encoding messages) (map value es)
      (map (λ e. record_by cmp key_of after (value e)) es)
  records_stand value [] casts sought = tt
  records_stand value (e ∷ es) casts sought = (
    record_stands (value e) (All-head (IsEquivocation payload_eq (filter keep (flat_map votes messages))) (value e)
        (map value es) casts) (All-head (λ e. AreSought cmp key_of before (value e)) e es sought),
    records_stand value es (All-tail (IsEquivocation payload_eq (filter keep (flat_map votes messages))) (value e)
        (map value es) casts) (All-tail (λ e. AreSought cmp key_of before (value e)) e es sought),
  )

-- ---- votes that were sought, and that no message carries

module _ {M D G K : Type 0} (cmp : K → K → Ordering) (eq : K → K → Bool) (key_of : SignedVote D G → K)
    (same : SignedVote D G → SignedVote D G → Bool)
    (alike : (v w : SignedVote D G) → eq (key_of v) (key_of w) ≡ same v w)
    (votes : M → List (SignedVote D G)) (places : ℕ → M → List Placed) (encoding : M → List ℕ) (messages : List M)
    (before after : BTreeMap K (Option Carried))
    (found : NotesAlong cmp eq key_of (votes_placed votes places) encoding 0 before after messages) where
  -- whether a message carries a vote
  abbrev bears : SignedVote D G → M → Bool
  bears v m = list_any (same v) (votes m)

  -- nothing was found of such a vote
  none_found : (v : SignedVote D G) → IsSought cmp before (key_of v) → All (λ m. bears v m ≡ false) messages →
      found_of (get cmp after (key_of v)) ≡ None
  none_found v sought none =
      let is_it : SignedVote D G → Bool = λ w. eq (key_of v) (key_of w) in
      let test : M → Bool = λ m. list_any is_it (votes m) in
      let find : ℕ → M → Option Carried = λ n m. found_in is_it (votes_placed votes places n m) in
      let agree : (λ (m : M). list_any is_it (votes m)) ≡ bears v = λ i m. list_any (λ u. alike v u i) (votes m) in
      let absent : All (λ m. test m ≡ false) messages =
      subst (λ (carries : M → Bool). All (λ m. carries m ≡ false) messages) (sym agree) none in
      ap found_of (found (key_of v)
      ∙ (ap (λ (known : Option (Option Carried)). or_found known (first_found find encoding 0 messages)) sought
      ∙ ap (or_found (Some None)) (none_stands test find encoding
      (λ n m h. found_none is_it (votes m) (map (carried_at n) (places n m)) h) 0 messages absent)))

  vote_nowhere : (v : SignedVote D G) (signer kind : ℕ) → IsSought cmp before (key_of v) →
      All (λ m. bears v m ≡ false) messages →
      StandsNowhere (message_at (found_of (get cmp after (key_of v))))
      (vote_at signer kind (found_of (get cmp after (key_of v))))
  vote_nowhere v signer kind sought none =
      subst (λ (o : Option Carried). StandsNowhere (message_at o) (vote_at signer kind o)) (sym (none_found v sought none))
      (record { message = refl; subject = refl; empty = refl; verdict = refl })

  -- all of some evidence
  pub records_nowhere : {E : Type 0} (value : E → Equivocation D G) (es : List E) →
      All (λ e. AreSought cmp key_of before (value e)) es →
      AllZip (HasNowhere bears messages) (map value es) (map (λ e. record_by cmp key_of after (value e)) es)
  records_nowhere value [] sought = tt
  records_nowhere value (e ∷ es) sought =
      let (first, second) = All-head (λ e. AreSought cmp key_of before (value e)) e es sought in (
        record {
          first = vote_nowhere (value e).first (value e).first.signer (kind_number (kind_of (value e).first.subject)) first;
          second = vote_nowhere (value e).second (value e).first.signer (kind_number (kind_of (value e).second.subject)) second;
        },
        records_nowhere value es (All-tail (λ e. AreSought cmp key_of before (value e)) e es sought),
      )

-- without evidence there are no records
pub no_records : {A B E : Type 0} (R : A → B → Type 0) (value : E → A) (es : List E) (found : List B) → es ≡ [] → found ≡ [] →
    AllZip R (map value es) found
no_records R value es found none nothing =
    subst (AllZip R (map value es)) (sym nothing) (subst (λ xs. AllZip R (map value xs) []) (sym none) tt)
