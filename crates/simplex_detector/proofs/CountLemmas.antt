-- How many votes are recorded, how many are accused in a round, and the split that this gives.
use Rattle.simplex_rules.proofs.Prelude.{RecordsFirsts, VoteKind, certified_subjects, first_certified, firsts_of, nothing_certified, Accusation, Activity, AllByRecursion, AreSplits, Bool, Conflicting_finalize, Conflicting_notarize, Contains, Equal, EquivocationKind, HaveCommittees, IsEquivalence, Less, List, None, Nullify_finalize, Option, Round, Rules, SignedVote, Some, [], accused_count, ap, append_assoc, arith, cond, cond-false, cond-true, cons_option, count_by, eqb-true, evidence_from, false, false_from_ne_true, false≢true, faults_of, filter, filter_map, get_or-range_with_len, is_accused, is_accused_in, is_some, is_split, length, length-filter, length-filter_both, length-range_with_len, map, nat_eq, not, not-true, option_to_list, range_with_len, recorded_of, recursion_from_All, refl, round_cmp, round_of, split_of, subst, suc, sym, tied_itself, true, valid_votes, votes_recorded, zero, ℕ, ⊎_elim, ◌++◌, ◌+◌, ◌<◌, ◌||◌, ◌∙◌, ◌∷◌, ◌≡◌}
use Rattle.simplex_rules.specs.declared.certified_subjects.CertifiedSubjects.{CertifiedSubjects}
use Rattle.simplex_detector.specs.declared.detector.Detector.{Detector}
use Rattle.simplex_ballots.specs.Rounds.{HoldsRound, accuses, round_count, slots}
use Rattle.simplex_detector.specs.RoundMap.{IsOrdered}
use Rattle.simplex_detector.specs.Detector.{Recalls, RecallsRound}
use Rattle.simplex_detector.specs.declared.round_state.RoundState.{RoundState}
use Rattle.simplex_ballots.specs.declared.round_votes.RoundVotes.{RoundVotes}
use Rattle.std.specs.List.{IsDistinct}
use Rattle.std.specs.List.Sorted.{IsStrictlySortedBy}
use Rattle.simplex_rules.proofs.AccountLemmas.{IsDistinct-filter, counted_signer, distinct_count-at_least, distinct_count-at_most, kind_from_accused_in}
use Rattle.simplex_rules.proofs.EvidenceLemmas.{evidence_exists, valid_from, votes_from_accused}
use Rattle.simplex_rules.proofs.Lists.{Contains-cons_cases, Contains-filter, Contains-first, Contains-from_filter, Contains-map, Contains-none, found}
use Rattle.simplex_rules.proofs.Places.{is_of-true, round_cmp_total, same_round-from, same_round-true}
use Rattle.simplex_rules.proofs.RecordedLemmas.{evidence_of-slots, of_round}
use Rattle.simplex_ballots.proofs.HeldLemmas.{none_of_round}
use Rattle.simplex_detector.proofs.ReportLemmas.{recalled, recalls_listed}
use Rattle.simplex_rules.proofs.SplitLemmas.{from_subjects, splits_of_rounds}
use Rattle.simplex_rules.proofs.Filters.{filter_filtered}

-- how many of some votes are of some rounds, counted round by round
abbrev of_rounds : {D G : Type 0} → List Round → List (SignedVote D G) → ℕ
of_rounds [] vs = 0
of_rounds (r ∷ rounds) vs = length (filter (of_round r) vs) + of_rounds rounds vs

-- where the rounds of all votes are among rounds that rise, counting round by round counts all votes
of_all : {D G : Type 0} (rounds : List Round) (vs : List (SignedVote D G)) → IsStrictlySortedBy round_cmp rounds →
    ((v : SignedVote D G) → Contains vs v → Contains rounds (round_of v.subject)) → of_rounds rounds vs ≡ length vs
unfolding IsStrictlySortedBy
of_all [] [] s h = refl
of_all [] (v ∷ vs) s h = absurd (Contains-none _ (h v (Contains-first v vs)))
of_all {D} {G} (r ∷ rounds) vs s h =
    let others = of_all rounds (filter other vs) s.1 (λ v v_in.
    let (v_in_vs, away) = Contains-from_filter other vs v v_in in
    ⊎_elim (λ e. absurd (false≢true (sym (not-true _ away) ∙ same_round-from _ r (sym e)))) (λ k. k)
    (Contains-cons_cases r rounds (round_of v.subject) (h v v_in_vs))) in
    omega (arith, length-filter_both (of_round r) other (λ v. refl) vs, others, skip rounds s.0)
  where
    other : SignedVote D G → Bool
    other v = not (of_round r v)

    skip : (rs : List Round) → AllByRecursion (λ q. round_cmp r q ≡ Less) rs → of_rounds rs (filter other vs) ≡ of_rounds rs vs
    skip [] less = refl
    skip (q ∷ rs) less = λ i. length (filter_filtered (of_round q) other (λ v e. ap not (false_from_ne_true (of_round r v) (λ d.
        let tied : round_cmp r q ≡ Equal =
        ap (λ p. round_cmp p q) (sym (same_round-true _ r d) ∙ same_round-true _ q e) ∙ tied_itself round_cmp_total q in
        let both_are : Less ≡ Equal = sym less.0 ∙ tied in absurd cc))) vs i) + skip rs less.1 i

-- how many votes there are of some rounds
abbrev pub rounds_count : {S D P G : Type 0} → List (Round × RoundState S D P G) → ℕ
rounds_count [] = 0
rounds_count (e ∷ es) = round_count e.1.votes + rounds_count es

module _ {S D C P G : Type 0} (rules : Rules S D C P G) (messages : List (Activity S D C P G)) (detector : Detector S D P G)
    (ordered : IsOrdered round_cmp detector.rounds) (holds : Recalls rules messages detector) where
  -- the detector has as many votes as are to be recorded of the messages
  pub counted_votes : IsEquivalence rules.eq →
      rounds_count detector.rounds ≡ votes_recorded rules.eq (valid_votes rules messages)
  counted_votes l =
      counted detector.rounds (recursion_from_All _ _ (recalls_listed rules messages detector ordered holds)) ∙
      of_all (map (λ e. e.0) detector.rounds) (recorded_of rules.eq (valid_votes rules messages)) ordered (λ v v_in.
      ⊎_elim
      (λ none. absurd (none_of_round rules.eq l (valid_votes rules messages) (round_of v.subject) none.votes v v_in refl))
      (λ there. Contains-map (λ e. e.0) detector.rounds (round_of v.subject, there.0) there.1)
      (recalled rules messages detector ordered holds (round_of v.subject)))
    where
      counted : (entries : List (Round × RoundState S D P G)) →
          AllByRecursion (λ e. RecallsRound rules messages e.0 e.1) entries →
          rounds_count entries ≡ of_rounds (map (λ e. e.0) entries) (recorded_of rules.eq (valid_votes rules messages))
      counted [] h = refl
      counted (e ∷ entries) h = λ i. h.0.votes.counted i + counted entries h.1 i

  -- the splits of the listed rounds are those of the messages
  pub splits_of_detector : AreSplits rules messages
      (filter_map (split_of rules messages) (map (λ e. e.0) detector.rounds))
  splits_of_detector = splits_of_rounds rules messages (map (λ e. e.0) detector.rounds) ordered (λ round h.
      ⊎_elim
      (λ none. absurd (false≢true (none.subjects.split ∙ sym (from_subjects rules messages round) ∙ h)))
      (λ there. Contains-map (λ e. e.0) detector.rounds (round, there.0) there.1)
      (recalled rules messages detector ordered holds round))

-- what was found, with what one more gives
pub splits_next : {X Y : Type 0} (f : X → Option Y) (found more all : List Y) (x : X) (xs : List X) (o : Option Y) →
    more ≡ found ++ option_to_list o → o ≡ f x → found ++ filter_map f (x ∷ xs) ≡ all → more ++ filter_map f xs ≡ all
splits_next f found more all x xs o more_is o_is so_far =
    let joined =
    elim o as (λ p. option_to_list p ++ filter_map f xs ≡ cons_option p (filter_map f xs)) [ None ↦ refl | Some y ↦ refl ] in
    ap (λ ys. ys ++ filter_map f xs) more_is ∙ append_assoc found (option_to_list o) (filter_map f xs)
    ∙ ap (λ ys. found ++ ys) (joined ∙ ap (λ p. cons_option p (filter_map f xs)) o_is) ∙ so_far

-- ---- how many are accused in a round

-- numbers that rise by one are distinct
IsDistinct-range : (a n : ℕ) → IsDistinct nat_eq (range_with_len a n)
unfolding IsDistinct
IsDistinct-range a zero = tt
IsDistinct-range a (suc n) = (above a (a + 1) n (omega arith), IsDistinct-range (a + 1) n)
  where
    above : (x b n : ℕ) → x < b → AllByRecursion (λ y. nat_eq x y ≡ false) (range_with_len b n)
    above x b zero lt = tt
    above x b (suc n) lt = (
      false_from_ne_true (nat_eq x b) (λ e. absurd (omega (arith, lt, eqb-true x b e))),
      above x (b + 1) n (omega (arith, lt)),
    )

-- they are as many as of the first numbers are accused, if all are among these
counted_in : {D G : Type 0} (eq : D → D → Bool) (vs : List (SignedVote D G)) (round : Round) (n : ℕ) →
    ((q : ℕ) → is_accused_in eq vs round q ≡ true → q < n) →
    count_by (is_accused_in eq vs round) (range_with_len 0 n) ≡ accused_count eq vs round
counted_in eq vs round n below =
    let accused = is_accused_in eq vs round in
    let signers = filter accused (map (λ v. v.signer) vs) in
    let among = filter accused (range_with_len 0 n) in
    let at_least = distinct_count-at_least among signers (IsDistinct-filter accused _ (IsDistinct-range 0 n))
    (λ q h. counted_signer eq vs round q (Contains-from_filter accused (range_with_len 0 n) q h).1) in
    let at_most = distinct_count-at_most signers among (λ q h.
    let is = (Contains-from_filter accused (map (λ v. v.signer) vs) q h).1 in
    let at : Contains (range_with_len 0 n) q =
    (q, omega (arith, below q is, length-range_with_len 0 n), omega (arith, get_or-range_with_len 0 n q q (below q is))) in
    Contains-filter accused (range_with_len 0 n) q at is) in
    omega (arith, at_least, at_most, length-filter accused (range_with_len 0 n))

-- who is accused is in the committee
accused_member : {S D C P G : Type 0} (rules : Rules S D C P G) → HaveCommittees rules → (messages : List (Activity S D C P G))
    (round : Round) (q : ℕ) → is_accused_in rules.eq (valid_votes rules messages) round q ≡ true → q < rules.size round.epoch
accused_member rules l messages round q h =
    let vs = valid_votes rules messages in
    let (kind, e) = kind_from_accused_in rules.eq vs round q h in
    let (v, w, v_in, w_in, of_v, against) =
    votes_from_accused rules.eq vs (record { round = round; signer = q; kind = kind }) e in
    let (m, m_in, own, valid) = valid_from rules messages v v_in in
    let at = is_of-true round q v of_v in
    subst (λ s. s < rules.size round.epoch) at.1
    (subst (λ r. v.signer < rules.size r.epoch) at.0 (l.members v.subject v.signer v.signature valid))

-- the slots of a round accuse exactly those whom the votes accuse there
accused_by_slots : {S D P G : Type 0} (eq : D → D → Bool) → IsEquivalence eq → (size : ℕ) (vs : List (SignedVote D G))
    (round : Round) (recorded : RoundVotes S D P G) → HoldsRound eq size vs round recorded → (signer : ℕ) →
    accuses (slots recorded signer) ≡ is_accused_in eq vs round signer
accused_by_slots eq l size vs round recorded holds signer = λ i.
    of_kind Conflicting_notarize i || (of_kind Conflicting_finalize i || of_kind Nullify_finalize i)
  where
    of_kind : (kind : EquivocationKind) → is_some (evidence_from (slots recorded signer) kind)
        ≡ is_accused eq vs (record { round = round; signer = signer; kind = kind })
    of_kind kind =
        let n : Accusation = record { round = round; signer = signer; kind = kind } in
        ap is_some ((λ i. evidence_from (λ one. holds.held signer one i) kind) ∙ sym (evidence_of-slots eq vs n))
        ∙ evidence_exists eq vs l n

-- ---- the split of a round

-- the split of a split round, from its recorded votes and its committee
pub split_found : {S D C P G : Type 0} (rules : Rules S D C P G) → HaveCommittees rules → IsEquivalence rules.eq →
    (messages : List (Activity S D C P G)) (round : Round) (round_state : RoundState S D P G) →
    RecallsRound rules messages round round_state → round_state.certified.split ≡ true → (n : ℕ) →
    rules.size round.epoch ≡ n → (named least : ℕ) →
    named ≡ count_by (λ q. accuses (slots round_state.votes q)) (range_with_len 0 n) → least ≡ faults_of n + 1 →
    Some (record { round = round; named = named; least = least }) ≡ split_of rules messages round
split_found rules l e messages round round_state recalls split n size named least counted least_is =
    let vs = valid_votes rules messages in
    let accused_is : named ≡ accused_count rules.eq vs round =
    counted
    ∙ (λ i. count_by (λ q. accused_by_slots rules.eq e _ vs round round_state.votes recalls.votes q i)
    (range_with_len 0 (sym size i)))
    ∙ counted_in rules.eq vs round (rules.size round.epoch) (accused_member rules l messages round) in
    let least_of : least ≡ faults_of (rules.size round.epoch) + 1 = least_is ∙ ap (λ k. faults_of k + 1) (sym size) in
    (λ i. Some (record { round = round; named = accused_is i; least = least_of i }))
    ∙ sym (cond-true (is_split rules messages round) _ None (from_subjects rules messages round ∙ sym recalls.subjects.split
    ∙ split))

-- ---- one round

-- nothing of one round
pub no_split_recorded : {S D C P G : Type 0} (rules : Rules S D C P G) (messages : List (Activity S D C P G)) (round : Round) →
    RecordsFirsts rules.eq (certified_subjects rules messages) round nothing_certified → None ≡ split_of rules messages round
no_split_recorded rules messages round firsts =
    sym (cond-false (is_split rules messages round) _ None (from_subjects rules messages round ∙ sym firsts.split))

-- what is recorded of the certified subjects tells whether one of a kind is certified
pub certified_told : {S D C P G : Type 0} (rules : Rules S D C P G) (messages : List (Activity S D C P G)) (round : Round)
    (kind : VoteKind) (recorded : CertifiedSubjects D) →
    RecordsFirsts rules.eq (certified_subjects rules messages) round recorded →
    cond recorded.split None (Some (is_some (firsts_of recorded kind))) ≡ cond (is_split rules messages round) None
    (Some (is_some (first_certified (certified_subjects rules messages) round kind)))
certified_told rules messages round kind recorded firsts =
    let whole = firsts.split ∙ sym (from_subjects rules messages round) in
    let none : Option Bool = None in
    (elim recorded.split as (λ b. recorded.split ≡ b → cond b none (Some (is_some (firsts_of recorded kind)))
    ≡ cond b none (Some (is_some (first_certified (certified_subjects rules messages) round kind)))) [
      | true ↦ λ split. refl
      | false ↦ λ one i. Some (is_some (firsts.firsts one kind i))
    ]) refl
    ∙ (λ i. cond (whole i) none (Some (is_some (first_certified (certified_subjects rules messages) round kind))))
