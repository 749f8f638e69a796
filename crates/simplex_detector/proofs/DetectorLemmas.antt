-- What is recorded, round by round, after one more message.
use Rattle.simplex_rules.proofs.Prelude.{Scheme, Activity, All, AllByRecursion, Attestation, Bool, IsEquivalence, List, None, Option, RecordsFirsts, Round, Rules, Schedule, SignedVote, Some, SubjectValue, VoteKind, [], activity_round, and-false, and-true, and_left, and_right, ap, append-nil, append_assoc, are_split, arith, certified_by, certified_in, certified_subjects, changes_firsts, committee_of, cond, cond-false, false, filter, filter-append, first_certified, firsts_of, have_news, if_certified, is_at, is_key, is_news, is_valid, kind_of, length, map, message_is_news, nothing_certified, option_to_list, or-false, recorded_in, recursion_from_All, refl, round_cmp, round_of, rules_of, same_kind, same_round, size_by, slot_of, subject_and_certificate, subject_is_news, subst, sym, true, valid_by, valid_votes, vote_on, votes_in, ℕ, ◌++◌, ◌&&◌, ◌||◌, ◌∙◌, ◌∷◌, ◌≡◌}
use Rattle.simplex_detector.specs.declared.detector.Detector.{Detector}
use Rattle.simplex_ballots.specs.Rounds.{HoldsRound, IsSized, no_slot, round_count, slots}
use Rattle.simplex_detector.specs.Detector.{Recalls, RecallsAt, RecallsNothing, RecallsRound, TakesContents, TakesIn}
use Rattle.simplex_detector.specs.declared.round_state.RoundState.{RoundState}
use Rattle.simplex_ballots.specs.declared.round_votes.RoundVotes.{RoundVotes}
use Rattle.simplex_detector.specs.RoundMap.{get}
use Rattle.simplex_rules.proofs.AccountLemmas.{certificate_parts}
use Rattle.simplex_rules.proofs.EvidenceLemmas.{valid_votes-push}
use Rattle.simplex_detector.proofs.KnownLemmas.{EachValid, RecordsAreValid, each_appended, each_valid, records_are_valid}
use Rattle.simplex_rules.proofs.Places.{key_tells, other_round}
use Rattle.simplex_ballots.proofs.HeldLemmas.{RecordsMore, none_in_round, same_held}
use Rattle.simplex_rules.proofs.RecordedLemmas.{have_news-append, of_round, recorded_in_push, slot_after_vote}
use Rattle.simplex_rules.proofs.SplitLemmas.{news_recorded, records_other_message, subjects_push}
use Rattle.simplex_evidence.specs.Activity.{contents_of}
use Rattle.simplex_rules.proofs.MessageLemmas.{IsHere}

-- ---- other rounds

-- what appending one element preserves, appending several preserves
appended : {X : Type 0} (P : List X → Type 0) (Q : X → Type 0) (keep : X → Bool) →
    ((xs : List X) (x : X) → Q x → P xs → P (xs ++ x ∷ [])) → (more xs : List X) → AllByRecursion Q more → P xs →
    P (xs ++ filter keep more)
appended P Q keep one [] xs q p = subst P (sym (append-nil xs)) p
appended P Q keep one (x ∷ more) xs q p = elim (keep x) as (λ b. P (xs ++ cond b (x ∷ filter keep more) (filter keep more))) [
  | true ↦
      subst P (append_assoc xs (x ∷ []) (filter keep more)) (appended P Q keep one more (xs ++ x ∷ []) q.1 (one xs x q.0 p))
  | false ↦ appended P Q keep one more xs q.1 p
]

module _ {S D C P G : Type 0} (rules : Rules S D C P G) (l : IsEquivalence rules.eq) (messages : List (Activity S D C P G))
    (m : Activity S D C P G) (here : All (IsHere (activity_round m)) (votes_in rules.listed m)) where
  -- what is recorded of the messages and of one more
  abbrev RecallsNext : Round → Option (RoundState S D P G) → Type 0
  RecallsNext round o = RecallsAt rules (messages ++ m ∷ []) round o

  -- what is recorded of another round stays
  elsewhere : (q : Round) → same_round (activity_round m) q ≡ false → (o : Option (RoundState S D P G)) →
      RecallsAt rules messages q o → RecallsNext q o
  elsewhere q apart o recalls = by o recalls
    where
      slot : (vs : List (SignedVote D G)) (v : SignedVote D G) → IsHere (activity_round m) v → (kind : VoteKind) (signer : ℕ) →
          slot_of rules.eq (vs ++ v ∷ []) kind q signer ≡ slot_of rules.eq vs kind q signer
      slot vs v v_here kind signer =
          slot_after_vote rules.eq l vs v kind q signer ∙
          cond-false (is_at kind q signer v) _ _ (and_right (same_kind (kind_of v.subject) kind) _
          (and_left (same_round (round_of v.subject) q) _ (ap (λ r. same_round r q) v_here ∙ apart)))

      many : (vs : List (SignedVote D G)) (v : SignedVote D G) → IsHere (activity_round m) v →
          recorded_in rules.eq (vs ++ v ∷ []) q ≡ recorded_in rules.eq vs q
      many vs v v_here =
          let none = ap (λ b. length (cond b (v ∷ []) []))
          (and_left (of_round q v) (is_news rules.eq vs v) (ap (λ r. same_round r q) v_here ∙ apart)) in
          omega (arith, none, recorded_in_push rules.eq vs v q)

      votes : (Recorded : List (SignedVote D G) → Type 0) → ((vs : List (SignedVote D G)) (v : SignedVote D G) →
          IsHere (activity_round m) v → Recorded vs → Recorded (vs ++ v ∷ [])) → Recorded (valid_votes rules messages) →
          Recorded (valid_votes rules (messages ++ m ∷ []))
      votes Recorded one r =
          subst Recorded (sym (valid_votes-push rules messages m)) (appended Recorded (IsHere (activity_round m))
          (is_valid rules) one (votes_in rules.listed m) (valid_votes rules messages) (recursion_from_All _ _ here) r)

      by : (o : Option (RoundState S D P G)) → RecallsAt rules messages q o → RecallsNext q o
      by None r = record {
        votes = votes (λ vs. (signer : ℕ) (kind : VoteKind) → no_slot ≡ slot_of rules.eq vs kind q signer)
            (λ vs v v_here e signer kind. e signer kind ∙ sym (slot vs v v_here kind signer)) r.votes;
        subjects = records_other_message rules l messages m q nothing_certified apart r.subjects;
      }
      by (Some round_state) r = record {
        votes = votes (λ vs. HoldsRound rules.eq (rules.size q.epoch) vs q round_state.votes) (λ vs v v_here. same_held rules.eq
            (rules.size q.epoch) vs (vs ++ v ∷ []) q round_state.votes (slot vs v v_here) (many vs v v_here)) r.votes;
        subjects = records_other_message rules l messages m q round_state.certified apart r.subjects;
      }

  -- what is recorded where only the message's round is changed
  pub recalls_changed : (round : Round) → round ≡ activity_round m →
      (after : Option (RoundState S D P G)) (old new : List (Round × RoundState S D P G)) →
      ((q : Round) → get round_cmp new q ≡ cond (is_key (round_cmp round) q) after (get round_cmp old q)) →
      RecallsNext (activity_round m) after →
      Recalls rules messages (let detector : Detector S D P G = record { rounds = old } in detector) → (q : Round) →
      RecallsNext q (get round_cmp new q)
  recalls_changed round at after old new is own holds q =
      subst (RecallsNext q) (sym (is q)) ((elim (is_key (round_cmp round)
      q) as (λ b. is_key (round_cmp round) q ≡ b → RecallsNext q (cond b after (get round_cmp old q))) [
        | true ↦ λ e. subst (λ r. RecallsNext r after) (sym at ∙ key_tells round q e) own
        | false ↦ λ e. elsewhere q (ap (λ r. same_round r q) (sym at) ∙ other_round round q e) (get round_cmp old q) (holds q)
      ]) refl)

  -- what is recorded where nothing is of the message's round, before and after
  pub recalls_still_none : (round : Round) → round ≡ activity_round m →
      (after : RoundState S D P G) (old : List (Round × RoundState S D P G)) → get round_cmp old round ≡ None →
      ((signer : ℕ) (kind : VoteKind) → slots after.votes signer kind ≡ no_slot) → after.certified ≡ nothing_certified →
      RecallsRound rules (messages ++ m ∷ []) (activity_round m) after →
      Recalls rules messages (let detector : Detector S D P G = record { rounds = old } in detector) → (q : Round) →
      RecallsNext q (get round_cmp old q)
  recalls_still_none round at after old none empty nothing own =
      recalls_changed round at None old old (λ q. (elim (is_key (round_cmp round)
      q) as (λ b. is_key (round_cmp round) q ≡ b → get round_cmp old q ≡ cond b None (get round_cmp old q))
      [ true ↦ λ e. ap (get round_cmp old) (sym (key_tells round q e)) ∙ none | false ↦ λ e. refl ]) refl) (record {
        votes = λ signer kind. sym (empty signer kind) ∙ own.votes.held signer kind;
        subjects = subst (RecordsFirsts rules.eq (certified_subjects rules (messages ++ m ∷ [])) (activity_round m)) nothing
            own.subjects;
      })

-- ---- votes and certificates of a round are judged by the committee of its epoch

module _ {S D C P G : Type 0} (scheme : Scheme S D C P G) where
  -- the rules by which messages are judged
  abbrev pub judges : Schedule S → Rules S D C P G
  judges = rules_of scheme

  -- what a committee records of the valid ones among votes on a subject
  abbrev pub RecordsValid : S → SubjectValue D → List (Attestation S P G) → Bool → RoundVotes S D P G → RoundVotes S D P G →
      Type 0
  RecordsValid s x given news before after =
      RecordsMore scheme.eq (length (scheme.keys s)) (scheme.good s) x given news before after

  -- the votes on a subject that are valid under a committee are valid under any committees of which it is the epoch's
  pub same_valid : (s : S) (x : SubjectValue D) (schedule : Schedule S) → committee_of schedule (round_of x).epoch ≡ Some s →
      (given : List (Attestation S P G)) → filter (λ v. scheme.good s v.subject v.signer v.signature) (map (vote_on x) given)
      ≡ filter (is_valid (judges schedule)) (map (vote_on x) given)
  same_valid s x schedule is [] = refl
  same_valid s x schedule is (a ∷ given) = λ i.
      cond (valid_by scheme.good (sym is i) x a.signer a.signature) (vote_on x a ∷ same_valid s x schedule is given i)
      (same_valid s x schedule is given i)

  module _ (s : S) (x : SubjectValue D) (given : List (Attestation S P G)) (news : Bool) (before after : RoundVotes S D P G)
      (records : RecordsValid s x given news before after) (schedule : Schedule S)
      (is : committee_of schedule (round_of x).epoch ≡ Some s) (vs : List (SignedVote D G))
      (holds : HoldsRound scheme.eq ((judges schedule).size (round_of x).epoch) vs (round_of x) before) where
    size_is : length (scheme.keys s) ≡ (judges schedule).size (round_of x).epoch
    size_is = ap (size_by scheme.keys) (sym is)

    held_before : HoldsRound scheme.eq (length (scheme.keys s)) vs (round_of x) before
    held_before = subst (λ n. HoldsRound scheme.eq n vs (round_of x) before) (sym size_is) holds

    -- the valid votes are recorded, for any other committees
    cast_by : HoldsRound scheme.eq ((judges schedule).size (round_of x).epoch)
        (vs ++ filter (is_valid (judges schedule)) (map (vote_on x) given)) (round_of x) after
    cast_by =
        subst (λ n. HoldsRound scheme.eq n (vs ++ filter (is_valid (judges schedule)) (map (vote_on x) given)) (round_of x)
        after) size_is (subst (λ ws. HoldsRound scheme.eq (length (scheme.keys s)) (vs ++ ws) (round_of x) after)
        (same_valid s x schedule is given) (records.held vs held_before))

    -- and whether one of them is news is told
    told_by : news ≡ have_news scheme.eq vs (filter (is_valid (judges schedule)) (map (vote_on x) given))
    told_by = records.tells vs held_before ∙ ap (have_news scheme.eq vs) (same_valid s x schedule is given)

  -- a vote on a subject
  pub takes_vote : (s : S) (x : SubjectValue D) (a : Attestation S P G) (news : Bool) (old new : RoundState S D P G) →
      new.certified ≡ old.certified → RecordsValid s x (a ∷ []) news old.votes new.votes →
      TakesIn judges s (round_of x) (vote_on x a ∷ []) None news old new
  takes_vote s x a news old new same records = record {
    cast = λ schedule is vs valid. cast_by s x (a ∷ []) news old.votes new.votes records schedule is vs;
    certified = λ schedule is vs xs valid holds firsts. subst (λ ys. RecordsFirsts scheme.eq ys (round_of x) new.certified)
        (sym (append-nil xs)) (subst (RecordsFirsts scheme.eq xs (round_of x)) (sym same) firsts);
    tells = λ schedule is vs xs valid holds firsts. told_by s x (a ∷ []) news old.votes new.votes records schedule is vs holds
        ∙ sym (or-false (have_news scheme.eq vs (filter (is_valid (judges schedule)) (vote_on x a ∷ []))));
  }

  -- whether the subject of a certificate is news is told
  pub subject_told : (s : S) (x : SubjectValue D) (c : C) (certifies : Bool) (old : RoundState S D P G) →
      certifies ≡ (changes_firsts scheme.eq (firsts_of old.certified) old.certified.split x && scheme.certified s x c) →
      (schedule : Schedule S) → committee_of schedule (round_of x).epoch ≡ Some s → (xs : List (SubjectValue D)) →
      RecordsFirsts scheme.eq xs (round_of x) old.certified →
      certifies ≡ subject_is_news scheme.eq xs (if_certified (judges schedule) (Some (x, c)))
  subject_told s x c certifies old told schedule is xs firsts =
      told
      ∙ ap (λ b. b && scheme.certified s x c) (news_recorded scheme.eq xs (round_of x) old.certified firsts x)
      ∙ if_certifies (scheme.certified s x c)
      ∙ ap (λ o. subject_is_news scheme.eq xs (cond (certified_by scheme.certified o x c) (Some x) None)) (sym is)
    where
      if_certifies : (b : Bool) →
          (changes_firsts scheme.eq (first_certified xs (round_of x)) (are_split scheme.eq xs (round_of x)) x && b)
          ≡ subject_is_news scheme.eq xs (cond b (Some x) None)
      if_certifies true =
          and-true (changes_firsts scheme.eq (first_certified xs (round_of x)) (are_split scheme.eq xs (round_of x)) x)
      if_certifies false =
          and-false (changes_firsts scheme.eq (first_certified xs (round_of x)) (are_split scheme.eq xs (round_of x)) x)

  -- a certificate of a subject, with the votes that it lists, if what is recorded before it is valid
  pub takes_certificate : (s : S) (x : SubjectValue D) (c : C) (given : List (Attestation S P G)) → given ≡ scheme.listed c →
      (news certifies : Bool) (old new : RoundState S D P G) →
      (RecordsAreValid scheme s old.votes → (xs : List (SubjectValue D)) →
      RecordsFirsts scheme.eq xs (round_of x) old.certified →
      RecordsFirsts scheme.eq (xs ++ cond (scheme.certified s x c) (x ∷ []) []) (round_of x) new.certified) →
      (RecordsAreValid scheme s old.votes →
      certifies ≡ (changes_firsts scheme.eq (firsts_of old.certified) old.certified.split x && scheme.certified s x c)) →
      (RecordsAreValid scheme s old.votes → RecordsValid s x given news old.votes new.votes) →
      TakesIn judges s (round_of x) (map (vote_on x) (scheme.listed c)) (Some (x, c)) (news || certifies) old new
  takes_certificate s x c given is_given news certifies old new subjects told votes =
      let listed : RecordsAreValid scheme s old.votes → RecordsValid s x (scheme.listed c) news old.votes new.votes = λ known.
      subst (λ listed. RecordsValid s x listed news old.votes new.votes) is_given (votes known) in
      let known : (schedule : Schedule S) → committee_of schedule (round_of x).epoch ≡ Some s → (vs : List (SignedVote D G)) →
      EachValid (judges schedule) vs →
      HoldsRound scheme.eq ((judges schedule).size (round_of x).epoch) vs (round_of x) old.votes →
      RecordsAreValid scheme s old.votes = λ schedule is vs valid holds.
      records_are_valid scheme s (round_of x) schedule is vs valid _ old.votes holds in
      record {
        cast = λ schedule is vs valid holds.
            cast_by s x (scheme.listed c) news old.votes new.votes (listed (known schedule is vs valid holds)) schedule is vs
            holds;
        certified = λ schedule is vs xs valid holds firsts.
            let alone = elim (scheme.certified s x c) as (λ b. cond b (x ∷ []) [] ≡ option_to_list (cond b (Some x) None))
            [ true ↦ refl | false ↦ refl ] in
            subst (λ ys. RecordsFirsts scheme.eq (xs ++ ys) (round_of x) new.certified)
            (alone ∙ ap (λ o. option_to_list (cond (certified_by scheme.certified o x c) (Some x) None)) (sym is))
            (subjects (known schedule is vs valid holds) xs firsts);
        tells = λ schedule is vs xs valid holds firsts.
            let sure = known schedule is vs valid holds in
            let subject = subject_told s x c certifies old (told sure) schedule is xs firsts in
            λ i. told_by s x (scheme.listed c) news old.votes new.votes (listed sure) schedule is vs holds i || subject i;
      }

  module _ (schedule : Schedule S) (messages : List (Activity S D C P G)) (m : Activity S D C P G) where
    -- what is recorded of the message's round, after it
    pub recalls_taken : (s : S) → committee_of schedule (activity_round m).epoch ≡ Some s → (news : Bool)
        (old new : RoundState S D P G) → TakesContents judges s scheme.listed (contents_of m) news old new →
        RecallsRound (judges schedule) messages (activity_round m) old →
        RecallsRound (judges schedule) (messages ++ m ∷ []) (activity_round m) new
    recalls_taken s is news old new takes recalls = record {
      votes = subst
          (λ vs. HoldsRound scheme.eq ((judges schedule).size (activity_round m).epoch) vs (activity_round m) new.votes)
          (sym (valid_votes-push (judges schedule) messages m))
          (takes.cast schedule is (valid_votes (judges schedule) messages) (each_valid (judges schedule) messages)
          recalls.votes);
      subjects =
          subst (λ xs. RecordsFirsts scheme.eq xs (activity_round m) new.certified)
          (sym (subjects_push (judges schedule) messages m))
          (takes.certified schedule is (valid_votes (judges schedule) messages) (certified_subjects (judges schedule) messages)
          (each_valid (judges schedule) messages) recalls.votes recalls.subjects);
    }

    -- whether the message is news
    pub news_taken : (s : S) → committee_of schedule (activity_round m).epoch ≡ Some s → (news : Bool)
        (old new : RoundState S D P G) → TakesContents judges s scheme.listed (contents_of m) news old new →
        RecallsRound (judges schedule) messages (activity_round m) old → news ≡ message_is_news (judges schedule) messages m
    news_taken s is news old new takes recalls =
        takes.tells schedule is (valid_votes (judges schedule) messages) (certified_subjects (judges schedule) messages)
        (each_valid (judges schedule) messages) recalls.votes recalls.subjects

    -- without a committee nothing more is valid or certified
    module _ (here : All (IsHere (activity_round m)) (votes_in scheme.listed m))
        (none : None ≡ committee_of schedule (activity_round m).epoch) where
      pub no_vote : filter (is_valid (judges schedule)) (votes_in scheme.listed m) ≡ []
      no_vote = each (votes_in scheme.listed m) (recursion_from_All _ (votes_in scheme.listed m) here)
        where
          each : (vs : List (SignedVote D G)) → AllByRecursion (IsHere (activity_round m)) vs →
              filter (is_valid (judges schedule)) vs ≡ []
          each [] h = refl
          each (v ∷ vs) h =
              (λ i. cond (valid_by scheme.good ((ap (λ r. committee_of schedule r.epoch) h.0 ∙ sym none) i) v.subject v.signer
              v.signature) (v ∷ filter (is_valid (judges schedule)) vs) (filter (is_valid (judges schedule)) vs)) ∙ each vs h.1

      no_subject : certified_in (judges schedule) m ≡ None
      no_subject = by (subject_and_certificate m) refl
        where
          by : (o : Option (SubjectValue D × C)) → subject_and_certificate m ≡ o → if_certified (judges schedule) o ≡ None
          by None is = refl
          by (Some s) is = λ i.
              cond (certified_by scheme.certified
              ((ap (λ r. committee_of schedule r.epoch) (sym (certificate_parts scheme.listed m s is).0) ∙ sym none) i) s.0 s.1)
              (Some s.0) None

      -- nothing more is recorded
      pub recalls_no_committee : (q : Round) (o : Option (RoundState S D P G)) → RecallsAt (judges schedule) messages q o →
          RecallsAt (judges schedule) (messages ++ m ∷ []) q o
      recalls_no_committee q = by
        where
          votes : valid_votes (judges schedule) messages ≡ valid_votes (judges schedule) (messages ++ m ∷ [])
          votes =
              sym (valid_votes-push (judges schedule) messages m
              ∙ ap (λ vs. valid_votes (judges schedule) messages ++ vs) no_vote
              ∙ append-nil (valid_votes (judges schedule) messages))

          subjects : certified_subjects (judges schedule) messages ≡ certified_subjects (judges schedule) (messages ++ m ∷ [])
          subjects =
              sym (subjects_push (judges schedule) messages m
              ∙ ap (λ p. certified_subjects (judges schedule) messages ++ option_to_list p) no_subject
              ∙ append-nil (certified_subjects (judges schedule) messages))

          by : (o : Option (RoundState S D P G)) → RecallsAt (judges schedule) messages q o →
              RecallsAt (judges schedule) (messages ++ m ∷ []) q o
          by None r = record {
            votes = subst (λ vs. (signer : ℕ) (kind : VoteKind) → no_slot ≡ slot_of scheme.eq vs kind q signer) votes r.votes;
            subjects = subst (λ xs. RecordsFirsts scheme.eq xs q nothing_certified) subjects r.subjects;
          }
          by (Some round_state) r = record {
            votes = subst (λ vs. HoldsRound scheme.eq ((judges schedule).size q.epoch) vs q round_state.votes) votes r.votes;
            subjects = subst (λ xs. RecordsFirsts scheme.eq xs q round_state.certified) subjects r.subjects;
          }

      -- so the message is no news
      pub no_news_no_committee : message_is_news (judges schedule) messages m ≡ false
      no_news_no_committee = λ i.
          have_news scheme.eq (valid_votes (judges schedule) messages) (no_vote i)
          || subject_is_news scheme.eq (certified_subjects (judges schedule) messages) (no_subject i)

  -- an empty state is that of the message's round, where the detector has none
  pub recalls_fresh : (schedule : Schedule S) (m : Activity S D C P G) (s : S) →
      committee_of schedule (activity_round m).epoch ≡ Some s → IsEquivalence scheme.eq →
      (rounds : List (Round × RoundState S D P G)) (fresh : RoundState S D P G) →
      None ≡ get round_cmp rounds (activity_round m) → IsSized (length (scheme.keys s)) fresh.votes →
      fresh.votes.round ≡ activity_round m →
      ((signer : ℕ) (kind : VoteKind) → slots fresh.votes signer kind ≡ no_slot) → round_count fresh.votes ≡ 0 →
      fresh.certified ≡ nothing_certified → (messages : List (Activity S D C P G)) →
      Recalls (judges schedule) messages (let detector : Detector S D P G = record { rounds = rounds } in detector) →
      RecallsRound (judges schedule) messages (activity_round m) fresh
  recalls_fresh schedule m s is l rounds fresh none sized round_is empty no_votes nothing messages holds =
      let at : RecallsNothing (judges schedule) messages (activity_round m) =
      subst (RecallsAt (judges schedule) messages (activity_round m)) (sym none) (holds (activity_round m)) in record {
        votes = record {
          sized = subst (λ n. IsSized n fresh.votes) (ap (size_by scheme.keys) (sym is)) sized;
          round_is = round_is;
          held = λ signer kind. empty signer kind ∙ at.votes signer kind;
          counted = no_votes
              ∙ sym (none_in_round scheme.eq l (valid_votes (judges schedule) messages) (activity_round m) at.votes);
        };
        subjects = subst (RecordsFirsts scheme.eq (certified_subjects (judges schedule) messages) (activity_round m))
            (sym nothing) at.subjects;
      }

-- two votes of one round, one after the other
pub takes_two : {S D C P G : Type 0} (rules : Schedule S → Rules S D C P G) (s : S) (v w : SignedVote D G) (one two : Bool)
    (old mid new : RoundState S D P G) → round_of w.subject ≡ round_of v.subject →
    TakesIn rules s (round_of v.subject) (v ∷ []) None one old mid →
    TakesIn rules s (round_of w.subject) (w ∷ []) None two mid new →
    TakesIn rules s (round_of v.subject) (v ∷ w ∷ []) None (one || two) old new
takes_two {S} {D} {C} {P} {G} rules s v w one two old mid new here first second =
    both first (subst (λ r. TakesIn rules s r (w ∷ []) None two mid new) here second)
  where
    both : {round : Round} → TakesIn rules s round (v ∷ []) None one old mid → TakesIn rules s round (w ∷ []) None two mid new →
        TakesIn rules s round (v ∷ w ∷ []) None (one || two) old new
    both {round} a b = record {
      cast = λ schedule is vs valid holds.
          let keep = is_valid (rules schedule) in
          subst (λ ws. HoldsRound (rules schedule).eq ((rules schedule).size round.epoch) ws round new.votes)
          (append_assoc vs (filter keep (v ∷ [])) (filter keep (w ∷ []))
          ∙ ap (λ ws. vs ++ ws) (sym (filter-append keep (v ∷ []) (w ∷ []))))
          (b.cast schedule is _ (each_appended (rules schedule) vs (v ∷ []) valid) (a.cast schedule is vs valid holds));
      certified = λ schedule is vs xs valid holds firsts.
          subst (λ ys. RecordsFirsts (rules schedule).eq (ys ++ []) round new.certified)
          (append-nil xs) (b.certified schedule is (vs ++ filter (is_valid (rules schedule)) (v ∷ [])) (xs ++ [])
          (each_appended (rules schedule) vs (v ∷ []) valid) (a.cast schedule is vs valid holds)
          (a.certified schedule is vs xs valid holds firsts));
      tells = λ schedule is vs xs valid holds firsts.
          let eq = (rules schedule).eq in
          let keep = is_valid (rules schedule) in
          let mid_votes = vs ++ filter keep (v ∷ []) in
          let mid_valid = each_appended (rules schedule) vs (v ∷ []) valid in
          let a_news = a.tells schedule is vs xs valid holds firsts ∙ or-false (have_news eq vs (filter keep (v ∷ []))) in
          let b_news = b.tells schedule is mid_votes (xs ++ []) mid_valid (a.cast schedule is vs valid holds)
          (a.certified schedule is vs xs valid holds firsts) ∙ or-false (have_news eq mid_votes (filter keep (w ∷ []))) in
          (λ i. a_news i || b_news i) ∙ sym (have_news-append eq vs (filter keep (v ∷ [])) (filter keep (w ∷ [])))
          ∙ ap (have_news eq vs) (sym (filter-append keep (v ∷ []) (w ∷ [])))
          ∙ sym (or-false (have_news eq vs (filter keep (v ∷ w ∷ []))));
    }
