-- The evidence in what is recorded, signer by signer and round by round, is the evidence of the votes.
use Rattle.simplex_rules.proofs.Prelude.{signer_in, Activity, All, All-contains, All-from_recursion, All-push, AllByRecursion, Bool, Conflicting_finalize, Conflicting_notarize, Contains, Equivocation, IsEquivalence, IsEvidence, EquivocationKind, Less, List, Accusation, None, Nullify_finalize, Round, Rules, SignedVote, Slot, Some, VoteKind, [], ap, append-nil, append_assoc, arith, cond-true, contradicts, evidence_from, evidence_of, false≢true, filter_map, filter_map-append, flat_map, flat_map_more, inl, inr, is_some, kind_rank, map, map-append, map-id, accused_by, accused_cmp, nat_cmp, option_to_list, ordering_then, recursion_from_All, refl, round_cmp, signer_cmp, slot_of, subst, sym, tied_itself, true, valid_votes, ℕ, ◌++◌, ◌∙◌, ◌∷◌, ◌≡◌, ◌⊎◌, or_left, or_right}
use Rattle.simplex_detector.specs.declared.detector.Detector.{Detector}
use Rattle.simplex_ballots.specs.Rounds.{HoldsRound, ListsSigners, found_at, found_of_kind, if_contradicts, no_slot, slots, accuses}
use Rattle.simplex_detector.specs.RoundMap.{IsOrdered, get}
use Rattle.simplex_detector.specs.Detector.{Recalls, RecallsAt, RecallsNothing, RecallsRound}
use Rattle.simplex_detector.specs.declared.round_state.RoundState.{RoundState}
use Rattle.simplex_ballots.specs.declared.round_votes.RoundVotes.{RoundVotes}
use Rattle.std.specs.List.Sorted.{IsStrictlySortedBy}
use Rattle.simplex_rules.specs.Accusation.{accusations_of}
use Rattle.simplex_rules.specs.Evidence.{evidence_against}
use Rattle.simplex_rules.proofs.EvidenceLemmas.{evidence_is, from_listing}
use Rattle.simplex_rules.proofs.Lists.{Contains-flat_map, Contains-from_flat_map, Contains-from_map, Contains-map, each, filter_map-joined, found, made_complete, made_ordered, made_sound, sorted_joined}
use Rattle.simplex_rules.proofs.Places.{round_cmp_total, signer_cmp_total}
use Rattle.simplex_detector.proofs.RoundMapLemmas.{get_iff}
use Rattle.simplex_rules.proofs.RecordedLemmas.{evidence_of-slots}

-- ---- the rounds of a detector

module _ {S D C P G : Type 0} (rules : Rules S D C P G) (messages : List (Activity S D C P G)) (detector : Detector S D P G)
    (ordered : IsOrdered round_cmp detector.rounds) (holds : Recalls rules messages detector) where
  -- what is recorded of a listed round
  pub recalls_listed : All (λ e. RecallsRound rules messages e.0 e.1) detector.rounds
  recalls_listed =
      each _ _ (λ e e_in. subst (RecallsAt rules messages e.0)
      ((get_iff detector.rounds ordered e.0 e.1).1 e_in) (holds e.0))

  -- a round is listed, or nothing is recorded of it
  pub recalled : (round : Round) → RecallsNothing rules messages round
      ⊎ ((round_state : RoundState S D P G) × Contains detector.rounds (round, round_state))
  recalled round =
      (elim (get round_cmp detector.rounds round) as (λ o. get round_cmp detector.rounds round ≡ o →
      RecallsAt rules messages round o → RecallsNothing rules messages round
      ⊎ ((round_state : RoundState S D P G) × Contains detector.rounds (round, round_state))) [
        | None ↦ λ at r. inl r
        | Some round_state ↦ λ at r.
            inr (round_state, (get_iff detector.rounds ordered round round_state).0 at)
      ]) refl (holds round)

-- ---- the accusations of a signer and of a round, in order

abbrev pub names_in : Round → List ℕ → List Accusation
names_in round signers = flat_map (accusations_of round) signers

-- the accusations of a signer in a round are of that signer and round
at_name : (round : Round) (signer : ℕ) (n : Accusation) → Contains (accusations_of round signer) n →
    (n.round ≡ round) × (n.signer ≡ signer)
at_name round signer n h =
    All-contains (λ (m : Accusation). (m.round ≡ round) × (m.signer ≡ signer)) (accusations_of round signer) n
    (All-from_recursion (λ (m : Accusation). (m.round ≡ round) × (m.signer ≡ signer)) (accusations_of round signer)
    ((refl, refl), ((refl, refl), ((refl, refl), tt)))) h

in_name : (round : Round) (signers : List ℕ) (n : Accusation) → Contains (names_in round signers) n → n.round ≡ round
in_name round signers n h =
    let (signer, _, at) = Contains-from_flat_map (accusations_of round) signers n h in (at_name round signer n at).0

-- each accusation is among those of its own signer and round
pub own_name : (n : Accusation) → Contains (accusations_of n.round n.signer) n
own_name n =
    elim n.kind as (λ kind. Contains (accusations_of n.round n.signer)
    (record { round = n.round; signer = n.signer; kind = kind })) [
      | Conflicting_notarize ↦ (0, omega arith, refl)
      | Conflicting_finalize ↦ (1, omega arith, refl)
      | Nullify_finalize ↦ (2, omega arith, refl)
    ]

-- those of a signer are in the order of kinds
ordered_at : (round : Round) (signer : ℕ) → IsStrictlySortedBy accused_cmp (accusations_of round signer)
unfolding IsStrictlySortedBy
ordered_at round signer =
    let rise : (k l : EquivocationKind) → nat_cmp (kind_rank k) (kind_rank l) ≡ Less →
    ordering_then (signer_cmp (signer_in round signer) (signer_in round signer)) (nat_cmp (kind_rank k) (kind_rank l)) ≡ Less =
    λ k l less i. ordering_then (tied_itself signer_cmp_total (signer_in round signer) i) (less i) in (
      (rise Conflicting_notarize Conflicting_finalize refl, (rise Conflicting_notarize Nullify_finalize refl, tt)),
      ((rise Conflicting_finalize Nullify_finalize refl, tt), (tt, tt)),
    )

-- those of a round are in the order of signers
ordered_in : (round : Round) (signers : List ℕ) → IsStrictlySortedBy nat_cmp signers →
    IsStrictlySortedBy accused_cmp (names_in round signers)
ordered_in round signers sorted =
    sorted_joined nat_cmp accused_cmp (λ s. s) (accusations_of round)
    (λ s q n m less n_in m_in.
    let (n_here, n_is) = at_name round s n n_in in
    let (m_here, m_is) = at_name round q m m_in in
    (λ i. ordering_then (signer_cmp (signer_in (n_here i) (n_is i)) (signer_in (m_here i) (m_is i)))
    (nat_cmp (kind_rank n.kind) (kind_rank m.kind))) ∙
    (λ i. ordering_then (ordering_then (tied_itself round_cmp_total round i) (less i))
    (nat_cmp (kind_rank n.kind) (kind_rank m.kind))))
    signers (λ s s_in. ordered_at round s) (subst (IsStrictlySortedBy nat_cmp) (sym (map-id signers)) sorted)

-- ---- what is found in the slots

-- evidence of a kind in the slots of a signer accuses it
accused : {D G : Type 0} (slot : VoteKind → Slot D G) (kind : EquivocationKind) → is_some (evidence_from slot kind) ≡ true →
    accuses slot ≡ true
accused slot Conflicting_notarize h = or_left _ _ h
accused slot Conflicting_finalize h =
    or_right (is_some (evidence_from slot Conflicting_notarize)) _ (or_left _ _ h)
accused slot Nullify_finalize h =
    or_right (is_some (evidence_from slot Conflicting_notarize)) _
    (or_right (is_some (evidence_from slot Conflicting_finalize)) _ h)

module _ {D G : Type 0} (eq : D → D → Bool) (vs : List (SignedVote D G)) where
  -- the evidence of an accusation makes that accusation
  pub accuses_own : (n : Accusation) (e : Equivocation D G) → evidence_of eq vs n ≡ Some e → accused_by e ≡ n
  accuses_own n e is = (evidence_is eq vs n e is).named

  -- the votes of an evidence contradict
  contradicts-evidence : (n : Accusation) → if_contradicts eq (evidence_of eq vs n) ≡ evidence_of eq vs n
  contradicts-evidence n = (elim (evidence_of eq vs n) as (λ o. evidence_of eq vs n ≡ o → if_contradicts eq o ≡ o) [
    | None ↦ λ is. refl
    | Some e ↦ λ is.
        cond-true (contradicts eq e.kind e.first e.second) (Some e) None
        (ap (λ (m : Accusation). contradicts eq m.kind e.first e.second) (accuses_own n e is)
        ∙ (found _ vs e.second (evidence_is eq vs n e is).second).1)
  ]) refl

  -- so the evidence is found in the slots of the votes, kind by kind
  pub found_at-evidence : (round : Round) (signer : ℕ) (slot : VoteKind → Slot D G) →
      ((kind : VoteKind) → slot kind ≡ slot_of eq vs kind round signer) →
      found_at eq slot ≡ filter_map (evidence_of eq vs) (accusations_of round signer)
  found_at-evidence round signer slot is =
      (λ i. option_to_list (of_kind Conflicting_notarize i)
      ++ (option_to_list (of_kind Conflicting_finalize i) ++ sym (append-nil (option_to_list (of_kind Nullify_finalize i))) i))
      ∙
      sym (filter_map-joined (evidence_of eq vs) (accusations_of round signer))
    where
      of_kind : (kind : EquivocationKind) →
          found_of_kind eq slot kind ≡ evidence_of eq vs (record { round = round; signer = signer; kind = kind })
      of_kind kind =
          let n : Accusation = record { round = round; signer = signer; kind = kind } in
          ap (if_contradicts eq) ((λ i. evidence_from (λ cast. is cast i) kind) ∙ sym (evidence_of-slots eq vs n))
          ∙ contradicts-evidence n

  -- nobody is accused of nothing
  pub against_nothing : (round : Round) (signer : ℕ) →
      ((signer : ℕ) (kind : VoteKind) → no_slot ≡ slot_of eq vs kind round signer) → [] ≡ evidence_against eq vs round signer
  against_nothing round signer empty = found_at-evidence round signer (λ kind. no_slot) (empty signer)

  -- nor is anybody else
  pub none_against : (round : Round) → ((signer : ℕ) (kind : VoteKind) → no_slot ≡ slot_of eq vs kind round signer) →
      (signers : List ℕ) → [] ≡ filter_map (evidence_of eq vs) (names_in round signers)
  none_against round empty [] = refl
  none_against round empty (s ∷ signers) =
      (λ i. against_nothing round s empty i ++ none_against round empty signers i)
      ∙ sym (filter_map-append (evidence_of eq vs) (accusations_of round s) (names_in round signers))

  module _ {S P : Type 0} (size : ℕ) (round : Round) (recorded : RoundVotes S D P G)
      (holds : HoldsRound eq size vs round recorded) where
    -- what is found of some signers
    pub found_in_round : (signers : List ℕ) → flat_map (λ signer. found_at eq (slots recorded signer)) signers
        ≡ filter_map (evidence_of eq vs) (names_in round signers)
    found_in_round [] = refl
    found_in_round (s ∷ signers) =
        (λ i. found_at-evidence round s (slots recorded s) (holds.held s) i ++ found_in_round signers i)
        ∙ sym (filter_map-append (evidence_of eq vs) (accusations_of round s) (names_in round signers))

    -- a signer with evidence in the round is among the listed signers
    pub listed_in_round : (signers : List ℕ) → ListsSigners recorded signers → (n : Accusation) → n.round ≡ round →
        is_some (evidence_of eq vs n) ≡ true → Contains (names_in round signers) n
    listed_in_round signers lists n here h =
        let from_slots =
        (λ i. evidence_from (λ kind. (holds.held n.signer kind ∙ ap (λ r. slot_of eq vs kind r n.signer) (sym here)) i) n.kind)
        ∙ sym (evidence_of-slots eq vs n) in
        Contains-flat_map (accusations_of round) signers n.signer n
        (lists.complete n.signer (accused (slots recorded n.signer) n.kind (ap is_some from_slots ∙ h)))
        (subst (λ r. Contains (accusations_of r n.signer) n) here (own_name n))

-- ---- the walk over the rounds

-- a round that was walked over
pub record Step (S D P G : Type 0) : Type 0 where
  pub round : Round
  pub round_state : RoundState S D P G
  pub signers : List ℕ

-- what is found in a step
abbrev pub found_in : {S D P G : Type 0} → (D → D → Bool) → Step S D P G → List (Equivocation D G)
found_in eq step = flat_map (λ signer. found_at eq (slots step.round_state.votes signer)) step.signers

-- the round of a step, with what is recorded of it
abbrev pub entry_in : {S D P G : Type 0} → Step S D P G → Round × RoundState S D P G
entry_in step = (step.round, step.round_state)

-- the evidence found so far is that of the entries before the rest
pub record Walked {S D P G : Type 0} (eq : D → D → Bool) (entries rest : List (Round × RoundState S D P G))
    (found : List (Equivocation D G)) : Type 0 where
  pub steps : List (Step S D P G)
  pub over : map entry_in steps ++ rest ≡ entries
  pub listed : All (λ step. ListsSigners step.round_state.votes step.signers) steps
  pub is : found ≡ flat_map (found_in eq) steps

-- one step more
pub walked_next : {S D P G : Type 0} (eq : D → D → Bool) (entries rest later : List (Round × RoundState S D P G))
    (round : Round) (round_state : RoundState S D P G) (signers : List ℕ) (found new : List (Equivocation D G)) →
    rest ≡ (round, round_state) ∷ later → ListsSigners round_state.votes signers →
    new ≡ found ++ flat_map (λ signer. found_at eq (slots round_state.votes signer)) signers → Walked eq entries rest found →
    Walked eq entries later new
walked_next {S} {D} {P} {G} eq entries rest later round round_state signers found new first lists is walked =
    let step : Step S D P G = record { round = round; round_state = round_state; signers = signers } in
    record {
      steps = walked.steps ++ step ∷ [];
      over = ap (λ es. es ++ later) (map-append entry_in walked.steps (step ∷ [])) ∙ append_assoc (map entry_in walked.steps)
          ((round, round_state) ∷ []) later ∙ ap (λ es. map entry_in walked.steps ++ es) (sym first) ∙ walked.over;
      listed = All-push (λ step. ListsSigners step.round_state.votes step.signers) walked.steps step walked.listed lists;
      is = is ∙ ap (λ es. es ++ found_in eq step) walked.is ∙ flat_map_more (found_in eq) [] walked.steps step;
    }

-- the walk over all rounds gives the evidence of the messages' valid votes
pub report_of_walk : {S D C P G : Type 0} (rules : Rules S D C P G) → IsEquivalence rules.eq → (detector : Detector S D P G) →
    IsOrdered round_cmp detector.rounds → (found : List (Equivocation D G)) → Walked rules.eq detector.rounds [] found →
    (messages : List (Activity S D C P G)) → Recalls rules messages detector →
    IsEvidence rules.eq (valid_votes rules messages) found
report_of_walk {S} {D} {C} {P} {G} rules l detector ordered found walked messages holds =
    subst (IsEvidence rules.eq vs)
    (sym (walked.is ∙ found_steps walked.steps (recursion_from_All _ walked.steps (each _ walked.steps held))))
    (from_listing rules.eq vs l _ (record {
      ordered = made_ordered accused_by accused_cmp (evidence_of rules.eq vs) (accuses_own rules.eq vs)
          (flat_map names_of walked.steps) (sorted_joined round_cmp accused_cmp (λ step. step.round) names_of
          (λ a b n m less n_in m_in.
          ap (λ o. ordering_then (ordering_then o (nat_cmp n.signer m.signer)) (nat_cmp (kind_rank n.kind) (kind_rank m.kind)))
          ((λ i. round_cmp (in_name a.round a.signers n n_in i) (in_name b.round b.signers m m_in i)) ∙ less))
          walked.steps (λ step step_in. ordered_in step.round step.signers (lists step step_in).ascending)
          (subst (IsStrictlySortedBy round_cmp) (rounds walked.steps)
          (subst (λ es. IsStrictlySortedBy round_cmp (map (λ e. e.0) es)) (sym over) ordered)));
      sound = made_sound accused_by accused_cmp (evidence_of rules.eq vs) (accuses_own rules.eq vs)
          (flat_map names_of walked.steps);
      complete = λ n h. made_complete accused_by accused_cmp (evidence_of rules.eq vs) (accuses_own rules.eq vs)
          (flat_map names_of walked.steps) n (complete n h) h;
    }))
  where
    vs : List (SignedVote D G)
    vs = valid_votes rules messages

    names_of : Step S D P G → List Accusation
    names_of step = names_in step.round step.signers

    over : map entry_in walked.steps ≡ detector.rounds
    over = sym (append-nil (map entry_in walked.steps)) ∙ walked.over

    rounds : (xs : List (Step S D P G)) → map (λ e. e.0) (map entry_in xs) ≡ map (λ step. step.round) xs
    rounds [] = refl
    rounds (step ∷ xs) = ap (λ rs. step.round ∷ rs) (rounds xs)

    lists : (step : Step S D P G) → Contains walked.steps step → ListsSigners step.round_state.votes step.signers
    lists step step_in = All-contains (λ s. ListsSigners s.round_state.votes s.signers) walked.steps step walked.listed step_in

    held : (step : Step S D P G) → Contains walked.steps step →
        HoldsRound rules.eq (rules.size step.round.epoch) vs step.round step.round_state.votes
    held step step_in =
        let recalls : RecallsRound rules messages step.round step.round_state =
        All-contains (λ e. RecallsRound rules messages e.0 e.1) detector.rounds (entry_in step)
        (recalls_listed rules messages detector ordered holds)
        (subst (λ es. Contains es (entry_in step)) over (Contains-map entry_in walked.steps step step_in)) in
        recalls.votes

    found_steps : (xs : List (Step S D P G)) →
        AllByRecursion (λ step. HoldsRound rules.eq (rules.size step.round.epoch) vs step.round step.round_state.votes) xs →
        flat_map (found_in rules.eq) xs ≡ filter_map (evidence_of rules.eq vs) (flat_map names_of xs)
    found_steps [] h = refl
    found_steps (step ∷ xs) h =
        (λ i. found_in_round rules.eq vs (rules.size step.round.epoch) step.round step.round_state.votes h.0 step.signers i
        ++ found_steps xs h.1 i) ∙ sym (filter_map-append (evidence_of rules.eq vs) (names_of step) (flat_map names_of xs))

    complete : (n : Accusation) → is_some (evidence_of rules.eq vs n) ≡ true → Contains (flat_map names_of walked.steps) n
    complete n h =
        elim (recalled rules messages detector ordered holds n.round) [
          | inl none ↦
              absurd (false≢true (ap is_some (sym (elim n.kind as (λ kind. evidence_from (λ _. no_slot {D = D} {G = G}) kind
              ≡ None) [ Conflicting_notarize ↦ refl | Conflicting_finalize ↦ refl | Nullify_finalize ↦ refl ])
              ∙ (λ i. evidence_from (λ kind. none.votes n.signer kind i) n.kind) ∙ sym (evidence_of-slots rules.eq vs n)) ∙ h))
          | inr there ↦
              let (step, step_in, is) = Contains-from_map entry_in walked.steps (n.round, there.0)
              (subst (λ es. Contains es (n.round, there.0)) (sym over) there.1) in
              Contains-flat_map names_of walked.steps step n step_in (listed_in_round rules.eq vs (rules.size step.round.epoch)
              step.round step.round_state.votes (held step step_in) step.signers (lists step step_in) n (λ i. (sym is i).0) h)
        ]
