-- What one ballot more, and one vote more in the index, leave of the recorded votes of a round.
use Rattle.std.proofs.Common.{All, Result, Ok, inl, inr, map, get_or, ◌⊎◌, ◌≡◌, ℕ, ◌<◌, ◌∙◌, zero, suc, List, [], ◌∷◌, ◌++◌, length, Bool, true, false, Option, Some, None, eqb, refl, sym, ap, subst}
use Rattle.std.proofs.Math.Bool.{and-false}
use Rattle.std.proofs.lemmas.Bool.{and_from, and_parts, cond-false, cond-true, eq-eqb, eqb-false, eqb-true, false≢true}
use Rattle.std.proofs.lemmas.List.{get_or_append_left, map-append}
use Rattle.std.proofs.lemmas.List.Elements.{recursion_from_All}
use Rattle.std.proofs.lemmas.Option.{get_or_from_slice_get, same_Some}
use Rattle.std.specs.List.{AllByRecursion, slice_get}
use Rattle.std.specs.Option.{IsSome, is_none, is_some, option_or}
use Rattle.std.specs.Prelude.{option_map, if◌then◌else◌, ◌&&◌}
use Rattle.simplex_base.specs.Positions.{Round}
use Rattle.simplex_scheme.specs.Kind.{kind_of, same_kind}
use Rattle.simplex_scheme.specs.Subject.{SubjectValue, Notarizes, Nullifies, Finalizes, round_of}
use Rattle.simplex_scheme.specs.declared.proposal.Proposal.{Proposal}
use Rattle.simplex_scheme.specs.declared.kind.VoteKind.{VoteKind}
use Rattle.simplex_votes.specs.Votes.{SignedVote}
use Rattle.simplex_evidence.specs.Contradiction.{excludes}
use Rattle.simplex_ballots.specs.Ballots.{proposal_in, subject_of, vote_key, vote_of}
use Rattle.simplex_ballots.specs.Index.{PlacesOne, place_of, placed_at}
use Rattle.simplex_rules.specs.Recorded.{Slot, changes, slot_with}
use Rattle.simplex_ballots.specs.Rounds.{IsSized, TakesVote, ballot_at, is_for, slots, vote_at}
use Rattle.simplex_ballots.proofs.IndexLemmas.{same_key}
use Rattle.simplex_rules.proofs.Places.{same_kind-refl, same_kind-true}
use Rattle.simplex_ballots.specs.declared.ballot.Ballot.{Ballot}
use Rattle.simplex_ballots.specs.declared.ballots.StoredVote.{StoredVote}
use Rattle.simplex_ballots.specs.declared.index.Index.{Index}
use Rattle.simplex_ballots.specs.declared.placed.Placed.{Placed}
use Rattle.simplex_ballots.specs.declared.round_votes.RoundVotes.{RoundVotes}

-- ---- lists

pub get_append : {X : Type 0} (xs ys : List X) (i : ℕ) (x : X) → slice_get xs i ≡ Some x → slice_get (xs ++ ys) i ≡ Some x
get_append [] ys i x e = absurd cc
get_append (y ∷ xs) ys zero x e = e
get_append (y ∷ xs) ys (suc i) x e = get_append xs ys i x e

pub get_last : {X : Type 0} (xs : List X) (x : X) → slice_get (xs ++ x ∷ []) (length xs) ≡ Some x
get_last [] x = refl
get_last (y ∷ xs) x = get_last xs x

-- ---- the ballots

-- the ballot of a stored vote
abbrev as_ballot : {S D P G : Type 0} → List (Option (Proposal D)) → StoredVote S P G → Ballot S D P G
as_ballot choices vote = record { proposal = get_or choices vote.choice None; signature = vote.signature }

-- the ballots of stored votes
abbrev ballots_of : {S D P G : Type 0} → List (Option (Proposal D)) → List (StoredVote S P G) → List (Ballot S D P G)
ballots_of choices votes = map (as_ballot choices) votes

-- what stands before one vote more, and maybe one choice more, stays
pub pushed : {S D P G : Type 0} (choices new : List (Option (Proposal D))) (votes after : List (StoredVote S P G))
    (stored : StoredVote S P G) (now : List (Ballot S D P G)) (ballot : Ballot S D P G) →
    All (λ vote. vote.choice < length choices) votes → ballots_of choices votes ≡ now →
    (new ≡ choices) ⊎ (new ≡ choices ++ ballot.proposal ∷ []) → slice_get new stored.choice ≡ Some ballot.proposal →
    stored.signature ≡ ballot.signature → after ≡ votes ++ stored ∷ [] → ballots_of new after ≡ now ++ ballot ∷ []
pushed {S} {D} {P} {G} choices new votes after stored now ballot within now_is grown there signature_is after_is =
    ap (ballots_of new) after_is ∙ map-append (as_ballot new) votes (stored ∷ [])
    ∙ (λ i. same grown i ++ (record {
      proposal = get_or_from_slice_get new stored.choice ballot.proposal None there i;
      signature = signature_is i;
    }) ∷ [])
    ∙ ap (λ bs. bs ++ ballot ∷ []) now_is
  where
    each : (more : List (Option (Proposal D))) (vs : List (StoredVote S P G)) →
        AllByRecursion (λ vote. vote.choice < length choices) vs → map (as_ballot (choices ++ more)) vs
        ≡ map (as_ballot choices) vs
    each more [] h = refl
    each more (v ∷ vs) h = λ i.
        (record { proposal = get_or_append_left choices more None v.choice h.0 i; signature = v.signature })
        ∷ each more vs h.1 i

    same : (new ≡ choices) ⊎ (new ≡ choices ++ ballot.proposal ∷ []) →
        map (as_ballot new) votes ≡ map (as_ballot choices) votes
    same (inl e) = ap (λ cs. map (as_ballot cs) votes) e
    same (inr e) =
        ap (λ cs. map (as_ballot cs) votes) e ∙ each (ballot.proposal ∷ []) votes (recursion_from_All _ votes within)

-- ---- the vote of a ballot

-- the subject of a vote is that of its ballot
mapped : {D G : Type 0} (o : Option (SubjectValue D)) (signer : ℕ) (signature : G) (v : SignedVote D G) →
    option_map (λ x. record { subject = x; signer = signer; signature = signature }) o ≡ Some v → o ≡ Some v.subject
mapped None signer signature v e = absurd cc
mapped (Some x) signer signature v e = ap (λ (w : SignedVote _ _). Some w.subject) (same_Some _ v e)

pub voted : {S D P G : Type 0} (round : Round) (signer : ℕ) (kind : VoteKind) (ballot : Ballot S D P G) (v : SignedVote D G) →
    vote_of round signer kind (Some ballot) ≡ Some v → subject_of kind round ballot.proposal ≡ Some v.subject
voted round signer kind ballot v e = mapped (subject_of kind round ballot.proposal) signer ballot.signature v e

-- the ballot of a vote
abbrev pub own_ballot : {S D P G : Type 0} → SignedVote D G → Ballot S D P G
own_ballot v = record { proposal = proposal_in v.subject; signature = v.signature }

-- is that vote's
pub own_vote : (S P : Type 0) {D G : Type 0} (v : SignedVote D G) →
    vote_of {S = S} {P = P} (round_of v.subject) v.signer (kind_of v.subject) (Some (own_ballot v)) ≡ Some v
own_vote S P {D} {G} v = by v.subject
  where
    by : (x : SubjectValue D) → vote_of {S = S} {P = P} (round_of x) v.signer (kind_of x)
        (Some (record { proposal = proposal_in x; signature = v.signature }))
        ≡ Some (record { subject = x; signer = v.signer; signature = v.signature })
    by (Notarizes p) = refl
    by (Nullifies r) = refl
    by (Finalizes p) = refl

-- ---- whether a vote is news

-- a vote whose place was found is there
pub some_place : (o : Option Placed) (place : ℕ) → option_map place_of o ≡ Some place → IsSome o
some_place None place e = absurd cc
some_place (Some placed) place e = refl

-- the ballot at its place is the vote's
pub ballot_there : {S D P G : Type 0} (ballots : List (Ballot S D P G)) (o : Option Placed) (place : ℕ) →
    option_map place_of o ≡ Some place → slice_get ballots place ≡ ballot_at ballots o
ballot_there ballots None place e = absurd cc
ballot_there ballots (Some placed) place e = ap (slice_get ballots) (sym (same_Some _ place e))

-- a signer's first vote, if the index has one, and whether it is apart from a subject
pub first_vote : {S D P G : Type 0} (eq : D → D → Bool) (recorded : RoundVotes S D P G) (n : ℕ) → IsSized n recorded →
    (signer : ℕ) (kind : VoteKind) (x : SubjectValue D) (place : ℕ) (is_apart : Bool) →
    option_map place_of (placed_at recorded.index signer kind false) ≡ Some place →
    ((ballot : Ballot S D P G) (y : SubjectValue D) → slice_get recorded.ballots place ≡ Some ballot →
    subject_of kind recorded.round ballot.proposal ≡ Some y → is_apart ≡ excludes eq y x) →
    (first : SignedVote D G) × ((vote_at recorded signer kind false ≡ Some first) × (is_apart ≡ excludes eq first.subject x))
first_vote {S} {D} {P} {G} eq recorded n sized signer kind x place is_apart there told =
    by (ballot_at recorded.ballots (placed_at recorded.index signer kind false)) (vote_at recorded signer kind false) refl refl
    (sized.whole signer kind false (some_place _ place there))
  where
    by : (b : Option (Ballot S D P G)) (o : Option (SignedVote D G)) →
        ballot_at recorded.ballots (placed_at recorded.index signer kind false) ≡ b → vote_of recorded.round signer kind b ≡ o →
        IsSome o → (first : SignedVote D G)
        × ((vote_at recorded signer kind false ≡ Some first) × (is_apart ≡ excludes eq first.subject x))
    by b None at vote some = absurd (false≢true some)
    by None (Some first) at vote some = absurd cc
    by (Some ballot) (Some first) at vote some = (
      first,
      (
        ap (vote_of recorded.round signer kind) at ∙ vote,
        told ballot first.subject (ballot_there recorded.ballots _ place there ∙ at)
            (voted recorded.round signer kind ballot first vote),
      ),
    )

-- the vote of a ballot that was found
pub vote_found : {S D P G : Type 0} (recorded : RoundVotes S D P G) (signer : ℕ) (kind : VoteKind) (is_other : Bool)
    (place : ℕ) (ballot : Ballot S D P G) (x : SubjectValue D) →
    option_map place_of (placed_at recorded.index signer kind is_other) ≡ Some place →
    slice_get recorded.ballots place ≡ Some ballot → subject_of kind recorded.round ballot.proposal ≡ Some x →
    vote_at recorded signer kind is_other ≡ Some (record { subject = x; signer = signer; signature = ballot.signature })
vote_found recorded signer kind is_other place ballot x there at is =
    ap (vote_of recorded.round signer kind) (sym (ballot_there recorded.ballots _ place there) ∙ at)
    ∙ ap (option_map (λ y. record { subject = y; signer = signer; signature = ballot.signature })) is

-- a vote that is there is not none
pub not_none : {X : Type 0} (o : Option X) → IsSome o → is_none o ≡ false
not_none None h = absurd (false≢true h)
not_none (Some x) h = refl

-- ---- one ballot more

module _ {S D P G : Type 0} (before after : RoundVotes S D P G) (ballot : Ballot S D P G)
    (round_is : after.round ≡ before.round) (ballots_is : after.ballots ≡ before.ballots ++ ballot ∷ []) where
  -- a vote that stands somewhere and is there stays
  stays : (signer : ℕ) (kind : VoteKind) (placed : Placed) →
      IsSome (vote_of before.round signer kind (slice_get before.ballots placed.place)) →
      vote_of after.round signer kind (slice_get after.ballots placed.place)
      ≡ vote_of before.round signer kind (slice_get before.ballots placed.place)
  stays signer kind placed = by (slice_get before.ballots placed.place) refl
    where
      by : (o : Option (Ballot S D P G)) → slice_get before.ballots placed.place ≡ o →
          IsSome (vote_of before.round signer kind o) →
          vote_of after.round signer kind (slice_get after.ballots placed.place) ≡ vote_of before.round signer kind o
      by None at some = absurd (false≢true some)
      by (Some b) at some =
          let there = ap (λ bs. slice_get bs placed.place) ballots_is
          ∙ get_append before.ballots (ballot ∷ []) placed.place b at in
          λ i. vote_of (round_is i) signer kind (there i)

  -- so does what the index has as before
  pub as_before : (signer : ℕ) (kind : VoteKind) (is_other : Bool) →
      placed_at after.index signer kind is_other ≡ placed_at before.index signer kind is_other →
      (IsSome (placed_at before.index signer kind is_other) → IsSome (vote_at before signer kind is_other)) →
      vote_at after signer kind is_other ≡ vote_at before signer kind is_other
  as_before signer kind is_other = by (placed_at before.index signer kind is_other)
    where
      by : (o : Option Placed) → placed_at after.index signer kind is_other ≡ o →
          (IsSome o → IsSome (vote_of before.round signer kind (ballot_at before.ballots o))) →
          vote_at after signer kind is_other ≡ vote_of before.round signer kind (ballot_at before.ballots o)
      by None at whole = ap (λ o. vote_of after.round signer kind (ballot_at after.ballots o)) at
      by (Some placed) at whole =
          ap (λ o. vote_of after.round signer kind (ballot_at after.ballots o)) at ∙ stays signer kind placed (whole refl)

-- ---- one vote more

-- where the vote stands
abbrev pub own_place : {D G : Type 0} → SignedVote D G → Bool → ℕ → Placed
own_place v is_other place =
    record { signer = v.signer; kind = kind_of v.subject; is_other = is_other; place = place }

or_none : {X : Type 0} (o : Option X) → option_or o None ≡ o
or_none None = refl
or_none (Some x) = refl

-- the slot of the vote, from what was there before and after
slot_after : {D G : Type 0} (eq : D → D → Bool) (v : SignedVote D G) (earliest other : Option (SignedVote D G))
    (is_other : Bool) → is_other ≡ is_some earliest → changes eq earliest other v.subject ≡ true →
    (new : Bool → Option (SignedVote D G)) → new is_other ≡ Some v →
    ((b : Bool) → (b ≡ is_other → ⊥) → new b ≡ (if b then other else earliest)) →
    (let slot : Slot D G = record { earliest = new false; other = new true } in slot)
    ≡ slot_with eq v (record { earliest = earliest; other = other })
slot_after eq v None other false e news new here there =
    let behind = there true (λ h. false≢true (sym h)) ∙ sym (or_none other) in
    λ i. record { earliest = here i; other = behind i }
slot_after eq v None other true e news new here there = absurd (false≢true (sym e))
slot_after eq v (Some first) other false e news new here there = absurd (false≢true e)
slot_after eq v (Some first) (Some w) true e news new here there =
    absurd (false≢true (sym (and-false (excludes eq first.subject v.subject)) ∙ news))
slot_after eq v (Some first) None true e news new here there =
    let apart = (and_parts (excludes eq first.subject v.subject) true news).0 in
    let before = there false false≢true in
    let behind = here ∙ sym (cond-true (excludes eq first.subject v.subject) (Some v) None apart) in
    λ i. record { earliest = before i; other = behind i }

-- the spot of a vote that is news is free
free_spot : {D G : Type 0} (eq : D → D → Bool) (x : SubjectValue D) (earliest other : Option (SignedVote D G))
    (is_other : Bool) → is_other ≡ is_some earliest → changes eq earliest other x ≡ true →
    is_some (if is_other then other else earliest) ≡ false
free_spot eq x None other false e news = refl
free_spot eq x None other true e news = absurd (false≢true (sym e))
free_spot eq x (Some first) other false e news = absurd (false≢true e)
free_spot eq x (Some first) (Some w) true e news = absurd (false≢true (sym (and-false (excludes eq first.subject x)) ∙ news))
free_spot eq x (Some first) None true e news = refl

module _ {S D P G : Type 0} (eq : D → D → Bool) (v : SignedVote D G) (before after : RoundVotes S D P G) (is_other : Bool)
    (round_is : after.round ≡ before.round) (participants_is : after.participants ≡ before.participants)
    (ballots_is : after.ballots ≡ before.ballots ++ own_ballot v ∷ [])
    (other_is : is_other ≡ is_some (slots before v.signer (kind_of v.subject)).earliest) where
  abbrev own_key : ℕ
  own_key = vote_key v.signer (kind_of v.subject) is_other

  -- ---- it went into the index
  module _ (added : PlacesOne before.index after.index (own_place v is_other (length before.ballots))) where
    new_vote : before.round ≡ round_of v.subject → vote_at after v.signer (kind_of v.subject) is_other ≡ Some v
    new_vote here =
        (λ i. vote_of (round_is i) v.signer (kind_of v.subject) (ballot_at (ballots_is i) (added.added i)))
        ∙ ap (λ o. vote_of before.round v.signer (kind_of v.subject) o) (get_last before.ballots (own_ballot v))
        ∙ ap (λ r. vote_of {S = S} {P = P} r v.signer (kind_of v.subject) (Some (own_ballot v))) here ∙ own_vote S P v

    -- every other vote is as before
    others : (n : ℕ) → IsSized n before → (signer : ℕ) (kind : VoteKind) (b : Bool) →
        (vote_key signer kind b ≡ own_key → ⊥) → vote_at after signer kind b ≡ vote_at before signer kind b
    others n sized signer kind b differs =
        as_before before after (own_ballot v) round_is ballots_is signer kind b
        (added.others signer kind b differs) (sized.whole signer kind b)

    whole_after : (n : ℕ) → IsSized n before → before.round ≡ round_of v.subject → (signer : ℕ) (kind : VoteKind) (b : Bool) →
        IsSome (placed_at after.index signer kind b) → IsSome (vote_at after signer kind b)
    whole_after n sized here signer kind b some = by (eqb (vote_key signer kind b) own_key) refl
      where
        by : (same : Bool) → eqb (vote_key signer kind b) own_key ≡ same → IsSome (vote_at after signer kind b)
        by true e =
            let parts = same_key signer v.signer kind (kind_of v.subject) b is_other (eqb-true _ _ e) in
            subst IsSome (sym ((λ i. vote_at after (parts.0 i) (parts.1.0 i) (parts.1.1 i)) ∙ new_vote here)) refl
        by false e =
            let differs = eqb-false _ _ e in
            subst IsSome (sym (others n sized signer kind b differs))
            (sized.whole signer kind b (subst IsSome (added.others signer kind b differs) some))

    own_slot : (n : ℕ) → IsSized n before → before.round ≡ round_of v.subject →
        changes eq (slots before v.signer (kind_of v.subject)).earliest (slots before v.signer (kind_of v.subject)).other
        v.subject ≡ true →
        slots after v.signer (kind_of v.subject) ≡ slot_with eq v (slots before v.signer (kind_of v.subject))
    own_slot n sized here news =
        slot_after eq v (vote_at before v.signer (kind_of v.subject) false) (vote_at before v.signer (kind_of v.subject) true)
        is_other other_is news (λ b. vote_at after v.signer (kind_of v.subject) b) (new_vote here)
        (λ b differs. others n sized v.signer (kind_of v.subject) b
        (λ e. differs (same_key v.signer v.signer (kind_of v.subject) (kind_of v.subject) b is_other e).1.1) ∙ chosen b)
      where
        chosen : (b : Bool) → vote_at before v.signer (kind_of v.subject) b
            ≡ (if b then vote_at before v.signer (kind_of v.subject) true
            else vote_at before v.signer (kind_of v.subject) false)
        chosen true = refl
        chosen false = refl

    pub takes_vote : TakesVote eq v before after
    takes_vote = record {
      round = round_is;
      sized = λ n sized here.
          record { participants = participants_is ∙ sized.participants; whole = whole_after n sized here };
      taken = λ n sized here news signer kind. by n sized here news signer kind (is_for v signer kind) refl;
      more = λ n sized news. added.longer;
    }
      where
        by : (n : ℕ) → IsSized n before → before.round ≡ round_of v.subject →
            changes eq (slots before v.signer (kind_of v.subject)).earliest (slots before v.signer (kind_of v.subject)).other
            v.subject ≡ true → (signer : ℕ) (kind : VoteKind) (own : Bool) → is_for v signer kind ≡ own →
            slots after signer kind
            ≡ (if is_for v signer kind then slot_with eq v (slots before signer kind) else slots before signer kind)
        by n sized here news signer kind true e =
            let parts = and_parts (same_kind (kind_of v.subject) kind) (eqb v.signer signer) e in
            let kind_is = same_kind-true (kind_of v.subject) kind parts.0 in
            let signer_is = eqb-true v.signer signer parts.1 in
            (subst (λ k. slots after signer k ≡ slot_with eq v (slots before signer k)) kind_is
            (subst (λ s. slots after s (kind_of v.subject) ≡ slot_with eq v (slots before s (kind_of v.subject))) signer_is
            (own_slot n sized here news)))
            ∙ sym (cond-true (is_for v signer kind) (slot_with eq v (slots before signer kind)) (slots before signer kind) e)
        by n sized here news signer kind false e =
            let differs : (b : Bool) → vote_key signer kind b ≡ own_key → ⊥ = λ b same.
            let parts = same_key signer v.signer kind (kind_of v.subject) b is_other same in
            false≢true (sym e ∙ (λ i. same_kind (kind_of v.subject) (parts.1.0 i) && eqb v.signer (parts.0 i))
            ∙ and_from (same_kind (kind_of v.subject) (kind_of v.subject)) (eqb v.signer v.signer)
            (same_kind-refl (kind_of v.subject)) (eq-eqb v.signer v.signer refl)) in
            (λ i. record {
              earliest = others n sized signer kind false (differs false) i;
              other = others n sized signer kind true (differs true) i;
            })
            ∙ sym (cond-false (is_for v signer kind) (slot_with eq v (slots before signer kind)) (slots before signer kind) e)

  -- ---- it did not, since there is a vote of its key
  module _ (index_is : after.index ≡ before.index)
      (some : IsSome (placed_at before.index v.signer (kind_of v.subject) is_other)) where
    -- then it is no news
    no_news : (n : ℕ) → IsSized n before → changes eq (slots before v.signer (kind_of v.subject)).earliest
        (slots before v.signer (kind_of v.subject)).other v.subject ≡ true → ⊥
    no_news n sized news =
        false≢true (sym (free_spot eq v.subject (vote_at before v.signer (kind_of v.subject) false)
        (vote_at before v.signer (kind_of v.subject) true) is_other other_is news) ∙ at is_other (sized.whole v.signer
        (kind_of v.subject) is_other some))
      where
        at : (b : Bool) → IsSome (vote_at before v.signer (kind_of v.subject) b) → is_some
            (if b then vote_at before v.signer (kind_of v.subject) true else vote_at before v.signer (kind_of v.subject) false)
            ≡ true
        at true h = h
        at false h = h

    pub takes_none : TakesVote eq v before after
    takes_none = record {
      round = round_is;
      sized = λ n sized here. record {
        participants = participants_is ∙ sized.participants;
        whole = λ signer kind b there.
            let before_some = subst (λ index. IsSome (placed_at index signer kind b)) index_is there in
            subst IsSome (sym (as_before before after (own_ballot v) round_is ballots_is signer kind b
            (ap (λ index. placed_at index signer kind b) index_is) (sized.whole signer kind b)))
            (sized.whole signer kind b before_some);
      };
      taken = λ n sized here news signer kind. absurd (no_news n sized news);
      more = λ n sized news. absurd (no_news n sized news);
    }

  -- whether it went in or not
  pub takes : {E : Type 0} (b : Bool) (index : Index) (placed : Placed) → index ≡ before.index →
      placed ≡ own_place v is_other (length before.ballots) →
      (◌≡◌ {A = Result Bool E} (Ok b) (Ok true) → PlacesOne index after.index placed) →
      (◌≡◌ {A = Result Bool E} (Ok b) (Ok false) → after.index ≡ index) →
      (◌≡◌ {A = Result Bool E} (Ok b) (Ok false) →
      IsSome (placed_at index placed.signer placed.kind placed.is_other)) → TakesVote eq v before after
  takes true index placed index_is placed_is added stays some =
      takes_vote (subst (λ p. PlacesOne before.index after.index p) placed_is
      (subst (λ i. PlacesOne i after.index placed) index_is (added refl)))
  takes false index placed index_is placed_is added stays some =
      takes_none (stays refl ∙ index_is)
      (subst (λ p. IsSome (placed_at before.index p.signer p.kind p.is_other)) placed_is
      (subst (λ i. IsSome (placed_at i placed.signer placed.kind placed.is_other)) index_is (some refl)))
