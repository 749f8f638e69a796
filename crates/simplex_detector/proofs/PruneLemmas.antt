-- The state of a part of the rounds is what it was before the states of other rounds were given up.
use Rattle.simplex_rules.proofs.Prelude.{Activity, Bool, List, None, Option, RecordsFirsts, Round, Rules, SignedVote, Slot, Some, VoteKind, SubjectValue, [], and_left, and_parts, ap, append-nil, append_assoc, arith, certified_subjects, changes, cond, excludes, false, false_from_ne_true, false≢true, filter, filter-append, find, firsts_of, in_rounds, is_at, is_key, is_news, kind_of, length, nothing_certified, other_than, recorded_in, refl, round_cmp, round_of, same_kind, same_round, slot_of, subst, sym, true, valid_votes, ℕ, ◌&&◌, ◌++◌, ◌∙◌, ◌∷◌, ◌≡◌}
use Rattle.simplex_rules.specs.declared.certified_subjects.CertifiedSubjects.{CertifiedSubjects}
use Rattle.simplex_detector.specs.declared.detector.Detector.{Detector}
use Rattle.simplex_ballots.specs.Rounds.{HoldsRound, no_slot}
use Rattle.simplex_detector.specs.Detector.{Recalls, RecallsAt, RecallsNothing}
use Rattle.simplex_detector.specs.declared.round_state.RoundState.{RoundState}
use Rattle.simplex_detector.specs.RoundMap.{get}
use Rattle.std.specs.Map.{lookup}
use Rattle.simplex_scheme.specs.declared.kind.VoteKind.TheVariants as kinds
use Rattle.simplex_rules.proofs.Filters.{find_filtered}
use Rattle.simplex_rules.proofs.PartLemmas.{is_subject_of, is_vote_of, split-from_within, split-within, subjects_in_rounds, votes_in_rounds, within}
use Rattle.simplex_rules.proofs.Lists.{Contains-from_filter, none_found}
use Rattle.simplex_rules.proofs.Places.{Spot, is_at-true, key_tells, same_round-true}
use Rattle.simplex_rules.proofs.RecordedLemmas.{of_round, recorded_in_push}
use Rattle.simplex_ballots.proofs.HeldLemmas.{same_held}

-- ---- votes

module _ {D G : Type 0} (eq : D → D → Bool) (part : Round → Bool) where
  -- a vote is of the part exactly if its round is
  at_within : (kind : VoteKind) (round : Round) (signer : ℕ) (v : SignedVote D G) → is_at kind round signer v ≡ true →
      is_vote_of part v ≡ part round
  at_within kind round signer v at =
      let s : Spot = record { kind = kind; round = round; signer = signer } in
      ap (λ (t : Spot). part t.round) (is_at-true s v at)

  -- the slots of a round of the part stay
  slot-within : (vs : List (SignedVote D G)) (kind : VoteKind) (round : Round) (signer : ℕ) → part round ≡ true →
      slot_of eq (within eq part vs) kind round signer ≡ slot_of eq vs kind round signer
  slot-within vs kind round signer here =
      let first = find_filtered (is_at kind round signer) (is_vote_of part)
      (λ v at. at_within kind round signer v at ∙ here) vs in
      λ i. record {
        earliest = first i;
        other = (ap (other_than eq (within eq part vs) kind round signer) first
            ∙ other (find (is_at kind round signer) vs)) i;
      }
    where
      other : (o : Option (SignedVote D G)) →
          other_than eq (within eq part vs) kind round signer o ≡ other_than eq vs kind round signer o
      other None = refl
      other (Some v) = find_filtered (λ w. is_at kind round signer w && excludes eq v.subject w.subject) (is_vote_of part)
          (λ w h. at_within kind round signer w
          (and_parts (is_at kind round signer w) (excludes eq v.subject w.subject) h).0 ∙ here) vs

  -- the slots of another round are empty
  no_slot-within : (vs : List (SignedVote D G)) (kind : VoteKind) (round : Round) (signer : ℕ) → part round ≡ false →
      no_slot ≡ slot_of eq (within eq part vs) kind round signer
  no_slot-within vs kind round signer away =
      let none = none_found (is_at kind round signer) (within eq part vs)
      (λ v v_in at. false≢true (sym away ∙ sym (at_within kind round signer v at)
      ∙ (Contains-from_filter (is_vote_of part) vs v v_in).1)) in
      sym (λ i. record { earliest = none i; other = other_than eq (within eq part vs) kind round signer (none i) })

  -- as many votes of a round of the part are recorded as before
  recorded_in-within : (round : Round) → part round ≡ true → (vs : List (SignedVote D G)) →
      recorded_in eq (within eq part vs) round ≡ recorded_in eq vs round
  recorded_in-within round here vs = after [] vs refl
    where
      Same : List (SignedVote D G) → Type 0
      Same ws = recorded_in eq (within eq part ws) round ≡ recorded_in eq ws round

      -- the votes of the part decide whether a vote of the part is news
      news : (ws : List (SignedVote D G)) (v : SignedVote D G) → is_vote_of part v ≡ true →
          is_news eq (within eq part ws) v ≡ is_news eq ws v
      news ws v v_here =
          ap (λ (slot : Slot D G). changes eq slot.earliest slot.other v.subject)
          (slot-within ws (kind_of v.subject) (round_of v.subject) v.signer v_here)

      more : (ws : List (SignedVote D G)) (v : SignedVote D G) (b : Bool) → is_vote_of part v ≡ b → Same ws →
          recorded_in eq (within eq part ws ++ cond b (v ∷ []) []) round ≡ recorded_in eq (ws ++ v ∷ []) round
      more ws v true at same =
          let one = ap (λ b. length (cond (of_round round v && b) (v ∷ []) [])) (news ws v at) in
          omega (arith, same, one, recorded_in_push eq (within eq part ws) v round, recorded_in_push eq ws v round)
      more ws v false at same =
          let apart : of_round round v ≡ false = false_from_ne_true (of_round round v)
          (λ e. false≢true (sym at ∙ ap part (same_round-true (round_of v.subject) round e) ∙ here)) in
          let none = ap (λ b. length (cond b (v ∷ []) [])) (and_left (of_round round v) (is_news eq ws v) apart) in
          let same_list = ap (λ us. recorded_in eq us round) (append-nil (within eq part ws)) in
          omega (arith, same, none, same_list, recorded_in_push eq ws v round)

      after : (ws us : List (SignedVote D G)) → Same ws → Same (ws ++ us)
      after ws [] same = subst Same (sym (append-nil ws)) same
      after ws (v ∷ us) same =
          subst Same (append_assoc ws (v ∷ []) us) (after (ws ++ v ∷ []) us
          (ap (λ xs. recorded_in eq xs round) (filter-append (is_vote_of part) ws (v ∷ []))
          ∙ more ws v (is_vote_of part v) refl same))

-- ---- certified subjects

module _ {D : Type 0} (eq : D → D → Bool) (part : Round → Bool) (xs : List (SubjectValue D)) (round : Round) where
  -- a subject of a round is of the part exactly if the round is
  first_within : (kind : VoteKind) (x : SubjectValue D) →
      (same_kind (kind_of x) kind && same_round (round_of x) round) ≡ true → is_subject_of part x ≡ part round
  first_within kind x h =
      ap part (same_round-true _ _ (and_parts (same_kind (kind_of x) kind) (same_round (round_of x) round) h).1)

  -- what is recorded of a round of the part stays
  firsts-within : (recorded : CertifiedSubjects D) → part round ≡ true → RecordsFirsts eq xs round recorded →
      RecordsFirsts eq (filter (is_subject_of part) xs) round recorded
  firsts-within recorded at records = record {
    split = records.split ∙ sym (split-within eq part xs round at);
    firsts = λ whole kind. records.firsts whole kind
        ∙ sym (find_filtered (λ x. same_kind (kind_of x) kind && same_round (round_of x) round) (is_subject_of part)
        (λ x h. first_within kind x h ∙ at) xs);
  }

  -- nothing is recorded of another round
  no_firsts-within : part round ≡ false → RecordsFirsts eq (filter (is_subject_of part) xs) round nothing_certified
  no_firsts-within away = record {
    split = sym (false_from_ne_true _ (λ h. false≢true (sym away ∙ split-from_within eq part xs round h)));
    firsts = λ whole kind.
        let empty : firsts_of (nothing_certified {D = D}) kind ≡ None =
        elim kind as (λ k. firsts_of (nothing_certified {D = D}) k ≡ None)
        [ kinds.Notarize ↦ refl | kinds.Nullify ↦ refl | kinds.Finalize ↦ refl ] in
        empty ∙ sym (none_found (λ x. same_kind (kind_of x) kind && same_round (round_of x) round)
        (filter (is_subject_of part) xs) (λ x x_in h. false≢true (sym away ∙ sym (first_within kind x h)
        ∙ (Contains-from_filter (is_subject_of part) xs x x_in).1)));
  }

-- ---- the state of a round

module _ {S D C P G : Type 0} (rules : Rules S D C P G) (part : Round → Bool) (messages : List (Activity S D C P G)) where
  -- a round of the part has the state that it had
  recalls_kept : (round : Round) → part round ≡ true → (o : Option (RoundState S D P G)) →
      RecallsAt rules messages round o → RecallsAt (in_rounds part rules) messages round o
  recalls_kept round here o r = by o r
    where
      votes : (Held : List (SignedVote D G) → Type 0) → Held (within rules.eq part (valid_votes rules messages)) →
          Held (valid_votes (in_rounds part rules) messages)
      votes Held h = subst Held (sym (votes_in_rounds rules part messages)) h

      subjects : (recorded : CertifiedSubjects D) → RecordsFirsts rules.eq (certified_subjects rules messages) round recorded →
          RecordsFirsts rules.eq (certified_subjects (in_rounds part rules) messages) round recorded
      subjects recorded h = subst (λ xs. RecordsFirsts rules.eq xs round recorded)
          (sym (subjects_in_rounds rules part messages))
          (firsts-within rules.eq part (certified_subjects rules messages) round recorded here h)

      by : (o : Option (RoundState S D P G)) → RecallsAt rules messages round o →
          RecallsAt (in_rounds part rules) messages round o
      by None r = record {
        votes = votes (λ ws. (signer : ℕ) (kind : VoteKind) → no_slot ≡ slot_of rules.eq ws kind round signer)
            (λ signer kind. r.votes signer kind
            ∙ sym (slot-within rules.eq part (valid_votes rules messages) kind round signer here));
        subjects = subjects nothing_certified r.subjects;
      }
      by (Some round_state) r = record {
        votes = votes (λ ws. HoldsRound rules.eq (rules.size round.epoch) ws round round_state.votes)
            (same_held rules.eq (rules.size round.epoch) (valid_votes rules messages)
            (within rules.eq part (valid_votes rules messages)) round round_state.votes
            (λ kind signer. slot-within rules.eq part (valid_votes rules messages) kind round signer here)
            (recorded_in-within rules.eq part round here (valid_votes rules messages)) r.votes);
        subjects = subjects round_state.certified r.subjects;
      }

  -- nothing is to be recorded of another round
  recalls_nothing : (round : Round) → part round ≡ false → RecallsNothing (in_rounds part rules) messages round
  recalls_nothing round away = record {
    votes = λ signer kind. subst (λ vs. no_slot ≡ slot_of rules.eq vs kind round signer)
        (sym (votes_in_rounds rules part messages))
        (no_slot-within rules.eq part (valid_votes rules messages) kind round signer away);
    subjects = subst (λ xs. RecordsFirsts rules.eq xs round nothing_certified)
        (sym (subjects_in_rounds rules part messages))
        (no_firsts-within rules.eq part (certified_subjects rules messages) round away);
  }

  -- the state of the part is left if the states of other rounds are given up
  pub recalls_pruned : (old new : List (Round × RoundState S D P G)) →
      ((round : Round) → get round_cmp new round ≡ cond (part round) (get round_cmp old round) None) →
      Recalls rules messages (let detector : Detector S D P G = record { rounds = old } in detector) →
      Recalls (in_rounds part rules) messages (let detector : Detector S D P G = record { rounds = new } in detector)
  recalls_pruned old new is holds round =
      subst (RecallsAt (in_rounds part rules) messages round) (sym (is round))
      ((elim (part round) as (λ b. part round ≡ b →
      RecallsAt (in_rounds part rules) messages round (cond b (get round_cmp old round) None)) [
        | true ↦ λ here. recalls_kept round here (get round_cmp old round) (holds round)
        | false ↦ λ away. recalls_nothing round away
      ]) refl)

-- ---- the map of states

-- a look-up among the entries of a part of the rounds
pub lookup-within : {X : Type 0} (part : Round → Bool) (round : Round) (entries : List (Round × X)) →
    lookup (is_key (round_cmp round)) (filter (λ e. part e.0) entries)
    ≡ cond (part round) (lookup (is_key (round_cmp round)) entries) None
lookup-within {X} part round [] =
    let none : Option X = None in
    elim (part round) as (λ b. none ≡ cond b none none) [ true ↦ refl | false ↦ refl ]
lookup-within {X} part round (e ∷ entries) =
    by (lookup-within part round entries) (is_key (round_cmp round) e.0) refl
  where
    found : Option X
    found = lookup (is_key (round_cmp round)) entries

    kept : List (Round × X)
    kept = filter (λ f. part f.0) entries

    -- if the first entry has another key
    skip : lookup (is_key (round_cmp round)) kept ≡ cond (part round) found None → (b : Bool) →
        is_key (round_cmp round) e.0 ≡ false →
        lookup (is_key (round_cmp round)) (cond b (e ∷ kept) kept) ≡ cond (part round) found None
    skip rest true at = (λ i. cond (at i) (Some e.1) (lookup (is_key (round_cmp round)) kept)) ∙ rest
    skip rest false at = rest

    -- if it has this key
    take : lookup (is_key (round_cmp round)) kept ≡ cond (part round) found None → (b : Bool) →
        is_key (round_cmp round) e.0 ≡ true → part round ≡ b →
        lookup (is_key (round_cmp round)) (cond b (e ∷ kept) kept) ≡ cond b (Some e.1) None
    take rest true at is = λ i. cond (at i) (Some e.1) (lookup (is_key (round_cmp round)) kept)
    take rest false at is = rest ∙ (λ i. cond (is i) found None)

    by : lookup (is_key (round_cmp round)) kept ≡ cond (part round) found None → (b : Bool) →
        is_key (round_cmp round) e.0 ≡ b →
        lookup (is_key (round_cmp round)) (cond (part e.0) (e ∷ kept) kept)
        ≡ cond (part round) (cond (is_key (round_cmp round) e.0) (Some e.1) found) None
    by rest true at =
        let same = ap part (sym (key_tells round e.0 at)) in
        (λ i. lookup (is_key (round_cmp round)) (cond (same i) (e ∷ kept) kept)) ∙ take rest (part round) at refl
        ∙ (λ i. cond (part round) (cond (sym at i) (Some e.1) found) None)
    by rest false at = skip rest (part e.0) at ∙ (λ i. cond (part round) (cond (sym at i) (Some e.1) found) None)
