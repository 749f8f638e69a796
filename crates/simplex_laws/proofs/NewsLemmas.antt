-- Which messages are news, that votes can stand alone, and that what is kept of messages has the same state.
use Rattle.simplex_rules.proofs.Prelude.{Activity, All, All-append, All-cons, All-nil, Attestation, Bool, Contains, IsEquivalence, List, None, Option, Round, Rules, SignedVote, Some, VoteKind, SubjectValue, Notarizes, Nullifies, Finalizes, [], activity_round, and_parts, ap, append-nil, append_assoc, are_split, arith, cases_Bool, certified_in, certified_subjects, changes, changes_firsts, cond, excludes_some, false, false_from_ne_true, false≢true, filter, filter_map-append, first_certified, first_with, flat_map, inl, inr, is_at, is_news, is_none, is_valid, length, length-append, map, news_after, not, not-true, option_or, option_to_list, or_cases, or_parts, refl, round_of, same_round, same_kind, slot_of, kind_of, subst, sym, true, valid_votes, vote_on, votes_in, votes_in_slot, ⊎_elim, ◌&&◌, ◌++◌, ◌||◌, ◌∙◌, ◌∷◌, ◌≡◌}
use Rattle.simplex_rules.specs.Interchange.{HaveSameState}
use Rattle.simplex_rules.specs.News.{IsCompaction, IsTheirs, LogsCompact, NewsChangesState, VotesCanStandAlone, certifies_news, certifies_no_news, compacted, have_news, if_news, kept_of, message_is_news, message_on, messages_kept, subject_is_news, valid_votes_in, vote_message, votes_alone}
use Rattle.simplex_rules.specs.NewsLaws.{kept-append}
use Rattle.simplex_evidence.specs.Activity.{has_certificate}
use Rattle.simplex_rules.proofs.EvidenceLemmas.{valid_votes-append, valid_votes-push}
use Rattle.simplex_laws.proofs.InterchangeLemmas.{interchangeable, same_slot_among, state-joined, state-refl, state-sym, state-trans}
use Rattle.simplex_rules.proofs.Lists.{Contains-cons, Contains-cons_cases, Contains-filter, Contains-first, Contains-flat_map, Contains-from_filter, Contains-from_map, Contains-none, each, same_bool}
use Rattle.simplex_rules.proofs.Places.{Spot, is_at-from, same_round-from, same_round-true, same_kind-refl, same_kind-true, spot}
use Rattle.simplex_rules.proofs.RecordedLemmas.{in_slot_after, no_news}
use Rattle.simplex_rules.proofs.SplitLemmas.{first_after, split_from, split_to, subjects_push}

-- ---- votes

module _ {D G : Type 0} (eq : D → D → Bool) where
  -- the news of votes are some of them
  pub news_from : (before vs : List (SignedVote D G)) (v : SignedVote D G) → Contains (news_after eq before vs) v →
      Contains vs v
  news_from before [] v h = absurd (Contains-none v h)
  news_from before (w ∷ vs) v h =
      let rest = news_after eq (before ++ w ∷ []) vs in
      (elim (is_news eq before w) as (λ b. Contains (cond b (w ∷ []) [] ++ rest) v → Contains (w ∷ vs) v) [
        | true ↦ λ k. elim (Contains-cons_cases w rest v k) [
          | inl e ↦ subst (Contains (w ∷ vs)) e (Contains-first w vs)
          | inr l ↦ Contains-cons w vs v (news_from (before ++ w ∷ []) vs v l)
        ]
        | false ↦ λ k. Contains-cons w vs v (news_from (before ++ w ∷ []) vs v k)
      ]) h

module _ {D G : Type 0} (eq : D → D → Bool) (l : IsEquivalence eq) where
  -- votes among which there is no news leave each slot
  quiet_slots : (before vs : List (SignedVote D G)) → have_news eq before vs ≡ false → (s : Spot) →
      slot_of eq (before ++ vs) s.kind s.round s.signer ≡ slot_of eq before s.kind s.round s.signer
  quiet_slots before [] h s = ap (λ ws. slot_of eq ws s.kind s.round s.signer) (append-nil before)
  quiet_slots before (v ∷ vs) h s =
      let p = or_parts (is_news eq before v) (have_news eq (before ++ v ∷ []) vs) h in
      ap (λ ws. slot_of eq ws s.kind s.round s.signer) (sym (append_assoc before (v ∷ []) vs))
      ∙ quiet_slots (before ++ v ∷ []) vs p.1 s ∙ no_news eq l before v p.0 s

  -- after votes with the same slots the same votes are news
  same_news : (before others vs : List (SignedVote D G)) → ((s : Spot) → slot_of eq before s.kind s.round s.signer
      ≡ slot_of eq others s.kind s.round s.signer) → have_news eq before vs ≡ have_news eq others vs
  same_news before others [] h = refl
  same_news before others (v ∷ vs) h =
      let own : slot_of eq before (kind_of v.subject) (round_of v.subject) v.signer ≡ slot_of eq others (kind_of v.subject)
      (round_of v.subject) v.signer = h (spot v) in
      let rest = same_news (before ++ v ∷ []) (others ++ v ∷ []) vs (λ s. same_slot_among eq l s [] before others (v ∷ [])
      (h s)) in
      λ i. changes eq (own i).earliest (own i).other v.subject || rest i

  -- news is among the votes that are recorded
  pub one_is_news : (before vs : List (SignedVote D G)) → have_news eq before vs ≡ true → (v : SignedVote D G) × Contains
      (news_after eq before vs) v
  one_is_news before [] h = absurd (false≢true h)
  one_is_news before (v ∷ vs) h =
      (elim (is_news eq before v) as (λ b. (b || have_news eq (before ++ v ∷ []) vs) ≡ true → (w : SignedVote D G) × Contains
      (cond b (v ∷ []) [] ++ news_after eq (before ++ v ∷ []) vs) w) [
        | true ↦ λ e. (v, Contains-first v (news_after eq (before ++ v ∷ []) vs))
        | false ↦ λ e. one_is_news (before ++ v ∷ []) vs e
      ]) h

  -- after votes with the same slots, one vote is news if it is
  is_news_alike : (before others : List (SignedVote D G)) (v : SignedVote D G) → ((s : Spot) →
      slot_of eq before s.kind s.round s.signer ≡ slot_of eq others s.kind s.round s.signer) →
      is_news eq before v ≡ is_news eq others v
  is_news_alike before others v h =
      let own : slot_of eq before (kind_of v.subject) (round_of v.subject) v.signer ≡ slot_of eq others (kind_of v.subject)
      (round_of v.subject) v.signer = h (spot v) in λ i. changes eq (own i).earliest (own i).other v.subject

  -- votes that leave each slot are no news
  no_news_from_slots : (before vs : List (SignedVote D G)) → ((s : Spot) → slot_of eq (before ++ vs) s.kind s.round s.signer
      ≡ slot_of eq before s.kind s.round s.signer) → have_news eq before vs ≡ false
  no_news_from_slots before vs same = false_from_ne_true (have_news eq before vs) (λ h.
      let (v, v_in) = one_is_news before vs h in
      let s = spot v in
      let news = filter (is_at s.kind s.round s.signer) (news_after eq before vs) in
      let here = Contains-filter (is_at s.kind s.round s.signer) (news_after eq before vs) v v_in (is_at-from s v refl) in
      let held = votes_in_slot (slot_of eq before s.kind s.round s.signer) in
      let longer = ap length (sym (in_slot_after eq l s before vs) ∙ ap votes_in_slot (same s)) in
      Contains-none v (subst (λ ws. Contains ws v) (none news (omega (arith, longer, length-append held news))) here))
    where
      none : (ws : List (SignedVote D G)) → length ws ≡ 0 → ws ≡ []
      none [] e = refl
      none (w ∷ ws) e = absurd (omega (arith, e))

  -- votes and those of them that are news leave the same slots
  recorded_suffice : (vs before others : List (SignedVote D G)) → ((s : Spot) → slot_of eq others s.kind s.round s.signer
      ≡ slot_of eq before s.kind s.round s.signer) → (s : Spot) →
      slot_of eq (others ++ news_after eq before vs) s.kind s.round s.signer ≡ slot_of eq (before ++ vs) s.kind s.round s.signer
  recorded_suffice [] before others same s = ap (λ ws. slot_of eq ws s.kind s.round s.signer) (append-nil others) ∙ same s
      ∙ ap (λ ws. slot_of eq ws s.kind s.round s.signer) (sym (append-nil before))
  recorded_suffice (v ∷ vs) before others same s =
      let more = news_after eq (before ++ v ∷ []) vs in
      (elim (is_news eq before v) as
      (λ b. is_news eq before v ≡ b → slot_of eq (others ++ (cond b (v ∷ []) [] ++ more)) s.kind s.round s.signer
      ≡ slot_of eq (before ++ v ∷ vs) s.kind s.round s.signer) [
        | true ↦ λ e.
            ap (λ ws. slot_of eq ws s.kind s.round s.signer) (sym (append_assoc others (v ∷ []) more)) ∙
            recorded_suffice vs (before ++ v ∷ []) (others ++ v ∷ []) (λ t. same_slot_among eq l t [] others before (v ∷ [])
            (same t)) s ∙
            ap (λ ws. slot_of eq ws s.kind s.round s.signer) (append_assoc before (v ∷ []) vs)
        | false ↦ λ e.
            recorded_suffice vs (before ++ v ∷ []) others (λ t. same t ∙ sym (no_news eq l before v e t)) s ∙
            ap (λ ws. slot_of eq ws s.kind s.round s.signer) (append_assoc before (v ∷ []) vs)
      ]) refl

-- ---- certified subjects

module _ {D : Type 0} (eq : D → D → Bool) (l : IsEquivalence eq) (xs : List (SubjectValue D)) where
  -- whether a subject changes what is recorded of a round that is its own
  pub news_here : (y : SubjectValue D) (round : Round) → same_round (round_of y) round ≡ true → changes_firsts eq
      (first_certified xs (round_of y)) (are_split eq xs (round_of y)) y ≡ changes_firsts eq (first_certified xs round)
      (are_split eq xs round) y
  news_here y round here = ap (λ r. changes_firsts eq (first_certified xs r) (are_split eq xs r) y)
      (same_round-true (round_of y) round here)

  -- which rounds are split with one subject more
  pub split_now : (y : SubjectValue D) (round : Round) → are_split eq (xs ++ y ∷ []) round
      ≡ (are_split eq xs round || (same_round (round_of y) round && excludes_some eq (first_certified xs round) y))
  split_now y round = same_bool _ _ (split_to eq l xs y round) (split_from eq l xs y round)

  -- what is no news splits no round
  pub quiet_split : (o : Option (SubjectValue D)) → subject_is_news eq xs o ≡ false → (round : Round) →
      are_split eq (xs ++ option_to_list o) round ≡ are_split eq xs round
  quiet_split None h round = ap (λ ys. are_split eq ys round) (append-nil xs)
  quiet_split (Some y) h round =
      split_now y round ∙
      (elim (same_round (round_of y) round) as
      (λ b. same_round (round_of y) round
      ≡ b → (are_split eq xs round || (b && excludes_some eq (first_certified xs round) y)) ≡ are_split eq xs round) [
        | true ↦ λ here. (elim (are_split eq xs round) as
            (λ b. (not b && (is_none (first_certified xs round (kind_of y)) || excludes_some eq (first_certified xs round) y))
            ≡ false → (b || excludes_some eq (first_certified xs round) y) ≡ b) [
              | true ↦ λ g. refl
              | false ↦ λ g. (or_parts (is_none (first_certified xs round (kind_of y)))
                  (excludes_some eq (first_certified xs round) y) g).1
            ]) (sym (news_here y round here) ∙ h)
        | false ↦ λ away. elim (are_split eq xs round) as (λ b. (b || false) ≡ b) [ true ↦ refl | false ↦ refl ]
      ]) refl

  -- and is no round's first
  pub quiet_firsts : (o : Option (SubjectValue D)) → subject_is_news eq xs o ≡ false → (round : Round) → are_split eq xs round
      ≡ false → (kind : VoteKind) → first_certified (xs ++ option_to_list o) round kind ≡ first_certified xs round kind
  quiet_firsts None h round whole kind = ap (λ ys. first_certified ys round kind) (append-nil xs)
  quiet_firsts (Some y) h round whole kind =
      first_after xs y round kind ∙
      (elim (same_round (round_of y) round) as (λ b. same_round (round_of y) round ≡ b →
      cond b (first_with y kind (first_certified xs round kind)) (first_certified xs round kind)
      ≡ first_certified xs round kind) [
        | true ↦ λ here. stays (same_kind (kind_of y) kind) refl (or_parts (is_none (first_certified xs round (kind_of y)))
            (excludes_some eq (first_certified xs round) y)
            (sym (ap (λ b. not b && (is_none (first_certified xs round (kind_of y)) || excludes_some eq
            (first_certified xs round) y)) whole) ∙ (sym (news_here y round here) ∙ h))).0
        | false ↦ λ away. refl
      ]) refl
    where
      stays : (b : Bool) → same_kind (kind_of y) kind ≡ b → is_none (first_certified xs round (kind_of y)) ≡ false →
          cond b (option_or (first_certified xs round kind) (Some y)) (first_certified xs round kind)
          ≡ first_certified xs round kind
      stays true is some = (elim (first_certified xs round kind) as (λ o. is_none o ≡ false → option_or o (Some y) ≡ o)
          [ None ↦ λ e. absurd (false≢true (sym e)) | Some a ↦ λ e. refl ])
          (subst (λ s. is_none (first_certified xs round s) ≡ false) (same_kind-true (kind_of y) kind is) some)
      stays false is some = refl

  -- what leaves the splits and the firsts is no news
  no_news_from_firsts : (o : Option (SubjectValue D)) → ((round : Round) → are_split eq (xs ++ option_to_list o) round
      ≡ are_split eq xs round) → ((round : Round) → are_split eq (xs ++ option_to_list o) round ≡ false → (kind : VoteKind) →
      first_certified (xs ++ option_to_list o) round kind ≡ first_certified xs round kind) → subject_is_news eq xs o ≡ false
  no_news_from_firsts None splits firsts = refl
  no_news_from_firsts (Some y) splits firsts = false_from_ne_true _ (λ h.
      let round = round_of y in
      let here = same_round-from round round refl in
      let p = and_parts (not (are_split eq xs round)) (is_none (first_certified xs round (kind_of y)) || excludes_some eq
      (first_certified xs round) y) h in
      let whole : are_split eq xs round ≡ false = (elim (are_split eq xs round) as (λ b. not b ≡ true → b ≡ false)
      [ true ↦ λ e. absurd (false≢true e) | false ↦ λ e. refl ]) p.0 in
      ⊎_elim
      (λ none.
      let first = sym (firsts round (splits round ∙ whole) (kind_of y)) ∙ first_after xs y round (kind_of y)
      ∙ (λ i. cond (here i)
      (cond (same_kind-refl (kind_of y) i) (option_or (first_certified xs round (kind_of y)) (Some y))
      (first_certified xs round (kind_of y))) (first_certified xs round (kind_of y))) in
      (elim (first_certified xs round (kind_of y)) as (λ o. is_none o ≡ true → o ≡ option_or o (Some y) → ⊥)
      [ None ↦ λ e is. absurd cc | Some a ↦ λ e is. false≢true e ]) none first)
      (λ against. false≢true (sym whole ∙ sym (splits round) ∙ split_now y round ∙ (λ i. whole i || (here i && against i))))
      (or_cases (is_none (first_certified xs round (kind_of y))) (excludes_some eq (first_certified xs round) y) p.1))

-- after subjects that split alike and have the same firsts, the same is news
same_subject_news : {D : Type 0} (eq : D → D → Bool) (xs ys : List (SubjectValue D)) →
    ((round : Round) → are_split eq xs round ≡ are_split eq ys round) →
    ((round : Round) → are_split eq xs round ≡ false → (kind : VoteKind) →
    first_certified xs round kind ≡ first_certified ys round kind) →
    (o : Option (SubjectValue D)) → subject_is_news eq xs o ≡ subject_is_news eq ys o
same_subject_news eq xs ys splits firsts None = refl
same_subject_news eq xs ys splits firsts (Some y) = elim (cases_Bool (are_split eq xs (round_of y))) [
  | inl e ↦ (λ i. changes_firsts eq (first_certified xs (round_of y)) (e i) y)
      ∙ sym (λ i. changes_firsts eq (first_certified ys (round_of y)) ((sym (splits (round_of y)) ∙ e) i) y)
  | inr whole ↦ λ i. changes_firsts eq (λ kind. firsts (round_of y) whole kind i) (splits (round_of y) i) y
]

-- ---- votes as messages of their own

module _ {S D C P G : Type 0} (rules : Rules S D C P G) where
  -- the votes of an attestation of a subject as a message
  votes_on : (x : SubjectValue D) (a : Attestation S P G) → votes_in rules.listed (message_on x a) ≡ vote_on x a ∷ []
  votes_on (Notarizes p) a = refl
  votes_on (Nullifies r) a = refl
  votes_on (Finalizes p) a = refl

  -- it certifies nothing
  certifies_none : (x : SubjectValue D) (a : Attestation S P G) → certified_in rules (message_on x a) ≡ None
  certifies_none (Notarizes p) a = refl
  certifies_none (Nullifies r) a = refl
  certifies_none (Finalizes p) a = refl

  -- it has no certificate
  pub is_alone : (x : SubjectValue D) (a : Attestation S P G) → has_certificate {C = C} (message_on x a) ≡ false
  is_alone (Notarizes p) a = refl
  is_alone (Nullifies r) a = refl
  is_alone (Finalizes p) a = refl

  -- it is of the subject's round
  pub alone_round : (x : SubjectValue D) (a : Attestation S P G) → activity_round {C = C} (message_on x a) ≡ round_of x
  alone_round (Notarizes p) a = refl
  alone_round (Nullifies r) a = refl
  alone_round (Finalizes p) a = refl

  -- the attestation of a vote
  abbrev pub attested : SignedVote D G → Attestation S P G
  attested v = record { signer = v.signer; signature = v.signature }

  -- a valid vote as a message of its own has this valid vote alone
  alone_valid : (v : SignedVote D G) → is_valid rules v ≡ true → valid_votes_in rules (vote_message v) ≡ v ∷ []
  alone_valid v valid =
      ap (filter (is_valid rules)) (votes_on v.subject (attested v)) ∙ ap (λ b. cond b (v ∷ []) []) valid

  -- it is kept if it is news
  alone_is_kept : (before : List (Activity S D C P G)) (v : SignedVote D G) → is_valid rules v ≡ true →
      is_news rules.eq (valid_votes rules before) v ≡ true → kept_of rules before (vote_message v) ≡ vote_message v ∷ []
  alone_is_kept before v valid news =
      let vs = valid_votes rules before in
      let votes : have_news rules.eq vs (valid_votes_in rules (vote_message v)) ≡ true =
      ap (have_news rules.eq vs) (alone_valid v valid) ∙ ap (λ b. b || false) news in
      λ i. cond (is_alone v.subject (attested v) i && not (certifies_news rules before (vote_message v)))
      (votes_alone rules before (vote_message v)) (cond (votes i || certifies_news rules before (vote_message v))
      (vote_message v ∷ []) [])

  -- valid votes, as messages, have these valid votes
  alone_are_valid : (vs : List (SignedVote D G)) → ((v : SignedVote D G) → Contains vs v → is_valid rules v ≡ true) →
      valid_votes rules (map vote_message vs) ≡ vs
  alone_are_valid [] valid = refl
  alone_are_valid (v ∷ vs) valid =
      valid_votes-append rules (vote_message v ∷ []) (map vote_message vs)
      ∙ (λ i. valid_votes-push rules [] (vote_message v) i
      ++ alone_are_valid vs (λ w w_in. valid w (Contains-cons v vs w w_in)) i)
      ∙ ap (λ ws. ws ++ vs) (alone_valid v (valid v (Contains-first v vs)))

  -- and certify nothing
  alone_certify_nothing : (vs : List (SignedVote D G)) → certified_subjects rules (map vote_message vs) ≡ []
  alone_certify_nothing [] = refl
  alone_certify_nothing (v ∷ vs) =
      filter_map-append (certified_in rules) (vote_message v ∷ []) (map vote_message vs)
      ∙ (λ i. filter_map-one v i ++ alone_certify_nothing vs i)
    where
      filter_map-one : (w : SignedVote D G) → certified_subjects rules (vote_message w ∷ []) ≡ []
      filter_map-one w = subjects_push rules [] (vote_message w) ∙ ap option_to_list (certifies_none w.subject (attested w))

  -- ---- what is kept is of messages and of their votes

  -- behind some messages what is kept of one is of all of them
  one_is_theirs : (ms before : List (Activity S D C P G)) (m : Activity S D C P G) → Contains ms m →
      All (IsTheirs rules ms) (kept_of rules before m)
  one_is_theirs ms before m m_in =
      elim (certifies_no_news rules before m) as (λ b. All (IsTheirs rules ms) (cond b (votes_alone rules before m)
      (if_news rules before m))) [
        | true ↦ each (IsTheirs rules ms) (votes_alone rules before m) (λ k k_in.
            let ns = news_after rules.eq (valid_votes rules before) (valid_votes_in rules m) in
            let (v, v_in, is) = Contains-from_map vote_message ns k k_in in
            let (w_in, valid) = Contains-from_filter (is_valid rules) (votes_in rules.listed m) v
            (news_from rules.eq (valid_votes rules before) (valid_votes_in rules m) v v_in) in
            inr (
              v,
              Contains-filter (is_valid rules) (flat_map (votes_in rules.listed) ms) v
                  (Contains-flat_map (votes_in rules.listed) ms m v m_in w_in) valid,
              sym is,
            ))
        | false ↦ elim (message_is_news rules before m) as (λ b. All (IsTheirs rules ms) (cond b (m ∷ []) [])) [
          | true ↦ All-cons (IsTheirs rules ms) m [] (inl m_in) (All-nil (IsTheirs rules ms))
          | false ↦ All-nil (IsTheirs rules ms)
        ]
      ]

  all_are_theirs : (ms before ns : List (Activity S D C P G)) → ((m : Activity S D C P G) → Contains ns m → Contains ms m) →
      All (IsTheirs rules ms) (messages_kept rules before ns)
  all_are_theirs ms before [] within = All-nil (IsTheirs rules ms)
  all_are_theirs ms before (n ∷ ns) within =
      All-append (IsTheirs rules ms) (kept_of rules before n) (messages_kept rules (before ++ n ∷ []) ns)
      (one_is_theirs ms before n (within n (Contains-first n ns)))
      (all_are_theirs ms (before ++ n ∷ []) ns (λ m m_in. within m (Contains-cons n ns m m_in)))

  kept_are_theirs : (ms : List (Activity S D C P G)) → All (IsTheirs rules ms) (compacted rules ms)
  kept_are_theirs ms = all_are_theirs ms [] ms (λ m m_in. m_in)

-- ---- messages

module _ {S D C P G : Type 0} (rules : Rules S D C P G) (l : IsEquivalence rules.eq) where
  -- a message that is no news leaves the state
  pub quiet_message : (before : List (Activity S D C P G)) (m : Activity S D C P G) → message_is_news rules before m ≡ false →
      HaveSameState rules (before ++ m ∷ []) before
  quiet_message before m h =
      let votes = valid_votes_in rules m in
      let p = or_parts (have_news rules.eq (valid_votes rules before) votes) (certifies_news rules before m) h in
      let subjects = subjects_push rules before m in
      record {
        votes = λ kind round signer. ap (λ vs. slot_of rules.eq vs kind round signer) (valid_votes-push rules before m)
            ∙ quiet_slots rules.eq l (valid_votes rules before) votes p.0
            (record { kind = kind; round = round; signer = signer });
        splits = λ round. ap (λ xs. are_split rules.eq xs round) subjects ∙ quiet_split rules.eq l
            (certified_subjects rules before) (certified_in rules m) p.1 round;
        firsts = λ round whole kind. ap (λ xs. first_certified xs round kind) subjects ∙ quiet_firsts rules.eq l
            (certified_subjects rules before) (certified_in rules m) p.1 round
            (sym (ap (λ xs. are_split rules.eq xs round) subjects ∙ quiet_split rules.eq l (certified_subjects rules before)
            (certified_in rules m) p.1 round) ∙ whole) kind;
      }

  -- and a message that leaves it is no news
  quiet_from_state : (before : List (Activity S D C P G)) (m : Activity S D C P G) → HaveSameState rules
      (before ++ m ∷ []) before → message_is_news rules before m ≡ false
  quiet_from_state before m same =
      let votes = valid_votes_in rules m in
      let push = valid_votes-push rules before m in
      let subjects = subjects_push rules before m in
      let no_votes : have_news rules.eq (valid_votes rules before) votes ≡ false = no_news_from_slots rules.eq l
      (valid_votes rules before) votes (λ s. ap (λ vs. slot_of rules.eq vs s.kind s.round s.signer) (sym push)
      ∙ same.votes s.kind s.round s.signer) in
      let no_subject : certifies_news rules before m ≡ false = no_news_from_firsts rules.eq l (certified_subjects rules before)
      (certified_in rules m)
      (λ round. ap (λ xs. are_split rules.eq xs round) (sym subjects) ∙ same.splits round)
      (λ round whole kind. ap (λ xs. first_certified xs round kind) (sym subjects)
      ∙ same.firsts round (ap (λ xs. are_split rules.eq xs round) subjects ∙ whole) kind) in
      λ i. no_votes i || no_subject i

  pub news_changes_state : NewsChangesState rules
  news_changes_state before m = (quiet_message before m, quiet_from_state before m)

  -- after messages with the same state, the same messages are news
  pub same_message_news : (ms ns : List (Activity S D C P G)) → HaveSameState rules ms ns → (m : Activity S D C P G) →
      message_is_news rules ms m ≡ message_is_news rules ns m
  same_message_news ms ns h m =
      let votes = same_news rules.eq l (valid_votes rules ms) (valid_votes rules ns) (valid_votes_in rules m)
      (λ s. h.votes s.kind s.round s.signer) in
      let subject = same_subject_news rules.eq (certified_subjects rules ms) (certified_subjects rules ns) h.splits h.firsts
      (certified_in rules m) in
      λ i. votes i || subject i

  -- ---- votes alone

  module _ (before others : List (Activity S D C P G)) (m : Activity S D C P G) (quiet : certifies_news rules before m ≡ false)
      (none : certified_subjects rules others ≡ []) where
    abbrev xs : List (SubjectValue D)
    xs = certified_subjects rules before

    nothing_more : certified_subjects rules (before ++ others) ≡ xs
    nothing_more =
        filter_map-append (certified_in rules) before others ∙ ap (λ ys. xs ++ ys) none ∙ append-nil xs

    same_splits : (round : Round) → are_split rules.eq (certified_subjects rules (before ++ others)) round
        ≡ are_split rules.eq (certified_subjects rules (before ++ m ∷ [])) round
    same_splits round =
        ap (λ ys. are_split rules.eq ys round) nothing_more
        ∙ sym (ap (λ ys. are_split rules.eq ys round) (subjects_push rules before m)
        ∙ quiet_split rules.eq l xs (certified_in rules m) quiet round)

    same_firsts : (round : Round) → are_split rules.eq (certified_subjects rules (before ++ others)) round ≡ false →
        (kind : VoteKind) → first_certified (certified_subjects rules (before ++ others)) round kind
        ≡ first_certified (certified_subjects rules (before ++ m ∷ [])) round kind
    same_firsts round whole kind =
        ap (λ ys. first_certified ys round kind) nothing_more
        ∙ sym (ap (λ ys. first_certified ys round kind) (subjects_push rules before m)
        ∙ quiet_firsts rules.eq l xs (certified_in rules m) quiet round
        (ap (λ ys. are_split rules.eq ys round) (sym nothing_more) ∙ whole) kind)

    same_slots : valid_votes rules others ≡ news_after rules.eq (valid_votes rules before)
        (valid_votes_in rules m) → (s : Spot) →
        slot_of rules.eq (valid_votes rules (before ++ others)) s.kind s.round s.signer
        ≡ slot_of rules.eq (valid_votes rules (before ++ m ∷ [])) s.kind s.round s.signer
    same_slots votes s =
        ap (λ vs. slot_of rules.eq vs s.kind s.round s.signer)
        (valid_votes-append rules before others ∙ ap (λ vs. valid_votes rules before ++ vs) votes)
        ∙ recorded_suffice rules.eq l (valid_votes_in rules m) (valid_votes rules before) (valid_votes rules before)
        (λ t. refl) s
        ∙ ap (λ vs. slot_of rules.eq vs s.kind s.round s.signer) (sym (valid_votes-push rules before m))

  pub votes_can_stand_alone : VotesCanStandAlone rules
  votes_can_stand_alone before others m quiet none votes = record {
    votes = λ kind round signer.
        same_slots before others m quiet none votes (record { kind = kind; round = round; signer = signer });
    splits = same_splits before others m quiet none;
    firsts = same_firsts before others m quiet none;
  }

  -- ---- what is kept

  -- messages that are equal have the same state
  state-equal : (ms ns : List (Activity S D C P G)) → ms ≡ ns → HaveSameState rules ms ns
  state-equal ms ns e = subst (HaveSameState rules ms) e (state-refl rules ms)

  -- what is kept of a message leaves the state that the message leaves
  kept_suffices : (before : List (Activity S D C P G)) (m : Activity S D C P G) →
      HaveSameState rules (before ++ kept_of rules before m) (before ++ m ∷ [])
  kept_suffices before m =
      (elim (certifies_no_news rules before m) as (λ b. certifies_no_news rules before m ≡ b →
      HaveSameState rules (before ++ cond b (votes_alone rules before m) (if_news rules before m)) (before ++ m ∷ [])) [
        | true ↦ λ e.
            let ns = news_after rules.eq (valid_votes rules before) (valid_votes_in rules m) in
            let valid : (v : SignedVote D G) → Contains ns v → is_valid rules v ≡ true = λ v v_in.
            (Contains-from_filter (is_valid rules) (votes_in rules.listed m) v
            (news_from rules.eq (valid_votes rules before) (valid_votes_in rules m) v v_in)).1 in
            votes_can_stand_alone before (votes_alone rules before m) m
            (not-true (certifies_news rules before m) (and_parts (has_certificate m) (not (certifies_news rules before m)) e).1)
            (alone_certify_nothing rules ns) (alone_are_valid rules ns valid)
        | false ↦ λ e. (elim (message_is_news rules before m) as (λ b. message_is_news rules before m ≡ b →
            HaveSameState rules (before ++ cond b (m ∷ []) []) (before ++ m ∷ [])) [
              | true ↦ λ news. state-refl rules (before ++ m ∷ [])
              | false ↦ λ quiet. state-trans rules (before ++ []) before (before ++ m ∷ [])
                  (state-equal (before ++ []) before (append-nil before))
                  (state-sym rules (before ++ m ∷ []) before (quiet_message before m quiet))
            ]) refl
      ]) refl

  -- behind messages with the same state too
  kept_suffices_behind : (before others : List (Activity S D C P G)) (m : Activity S D C P G) →
      HaveSameState rules others before → HaveSameState rules (others ++ kept_of rules before m) (before ++ m ∷ [])
  kept_suffices_behind before others m h =
      let kept = kept_of rules before m in
      state-trans rules (others ++ kept) (before ++ kept) (before ++ m ∷ [])
      (state-joined rules l others before kept kept h (state-refl rules kept)) (kept_suffices before m)

  -- behind messages with the same state, what is kept of further messages leaves the state that all of these leave
  all_kept_suffice : (ms before others : List (Activity S D C P G)) → HaveSameState rules others before → HaveSameState rules
      (others ++ messages_kept rules before ms) (before ++ ms)
  all_kept_suffice [] before others h = state-trans rules (others ++ []) others (before ++ [])
      (state-equal (others ++ []) others (append-nil others)) (state-trans rules others before (before ++ []) h
      (state-equal before (before ++ []) (sym (append-nil before))))
  all_kept_suffice (m ∷ ms) before others h =
      let kept = kept_of rules before m in
      let more = messages_kept rules (before ++ m ∷ []) ms in
      subst (λ ks. HaveSameState rules ks (before ++ m ∷ ms)) (append_assoc others kept more)
      (subst (HaveSameState rules ((others ++ kept) ++ more)) (append_assoc before (m ∷ []) ms)
      (all_kept_suffice ms (before ++ m ∷ []) (others ++ kept) (kept_suffices_behind before others m h)))

  -- ---- kept again

  -- valid votes that are news are kept again, each as a message, behind messages whose valid votes have the same slots
  votes_kept_again : (vs before : List (SignedVote D G)) (others : List (Activity S D C P G)) →
      ((s : Spot) → slot_of rules.eq (valid_votes rules others) s.kind s.round s.signer
      ≡ slot_of rules.eq before s.kind s.round s.signer) →
      ((v : SignedVote D G) → Contains vs v → is_valid rules v ≡ true) →
      messages_kept rules others (map vote_message (news_after rules.eq before vs))
      ≡ map vote_message (news_after rules.eq before vs)
  votes_kept_again [] before others same valid = refl
  votes_kept_again (v ∷ vs) before others same valid =
      let more = news_after rules.eq (before ++ v ∷ []) vs in
      let rest_valid : (w : SignedVote D G) → Contains vs w → is_valid rules w ≡ true =
      λ w w_in. valid w (Contains-cons v vs w w_in) in
      (elim (is_news rules.eq before v) as (λ b. is_news rules.eq before v ≡ b →
      messages_kept rules others (map vote_message (cond b (v ∷ []) [] ++ more))
      ≡ map vote_message (cond b (v ∷ []) [] ++ more)) [
        | true ↦ λ e.
            let one = alone_is_kept rules others v (valid v (Contains-first v vs))
            (is_news_alike rules.eq l (valid_votes rules others) before v same ∙ e) in
            let push = valid_votes-push rules others (vote_message v)
            ∙ ap (λ ws. valid_votes rules others ++ ws) (alone_valid rules v (valid v (Contains-first v vs))) in
            (λ i. one i ++ messages_kept rules (others ++ vote_message v ∷ []) (map vote_message more))
            ∙ ap (λ ks. vote_message v ∷ ks) (votes_kept_again vs (before ++ v ∷ []) (others ++ vote_message v ∷ [])
            (λ s. ap (λ ws. slot_of rules.eq ws s.kind s.round s.signer) push
            ∙ same_slot_among rules.eq l s [] (valid_votes rules others) before (v ∷ []) (same s)) rest_valid)
        | false ↦ λ e. votes_kept_again vs (before ++ v ∷ []) others
            (λ s. same s ∙ sym (no_news rules.eq l before v e s)) rest_valid
      ]) refl

  -- what is kept of a message is kept again behind messages with the same state
  kept_again : (before others : List (Activity S D C P G)) (m : Activity S D C P G) → HaveSameState rules others before →
      messages_kept rules others (kept_of rules before m) ≡ kept_of rules before m
  kept_again before others m h =
      let subject : certifies_no_news rules others m ≡ certifies_no_news rules before m = λ i. has_certificate m
      && not (same_subject_news rules.eq (certified_subjects rules others) (certified_subjects rules before) h.splits h.firsts
      (certified_in rules m) i) in
      (elim (certifies_no_news rules before m) as (λ b. certifies_no_news rules before m ≡ b →
      messages_kept rules others (cond b (votes_alone rules before m) (if_news rules before m))
      ≡ cond b (votes_alone rules before m) (if_news rules before m)) [
        | true ↦ λ e. votes_kept_again (valid_votes_in rules m) (valid_votes rules before) others
            (λ s. h.votes s.kind s.round s.signer)
            (λ v v_in. (Contains-from_filter (is_valid rules) (votes_in rules.listed m) v v_in).1)
        | false ↦ λ e. (elim (message_is_news rules before m) as (λ b. message_is_news rules before m ≡ b →
            messages_kept rules others (cond b (m ∷ []) []) ≡ cond b (m ∷ []) []) [
              | true ↦ λ news. λ i. cond ((subject ∙ e) i) (votes_alone rules others m)
                  (cond ((same_message_news others before h m ∙ news) i) (m ∷ []) []) ++ []
              | false ↦ λ quiet. refl
            ]) refl
      ]) refl

  -- what is kept of messages is kept again
  all_kept_again : (ms before others : List (Activity S D C P G)) → HaveSameState rules others before →
      messages_kept rules others (messages_kept rules before ms) ≡ messages_kept rules before ms
  all_kept_again [] before others h = refl
  all_kept_again (m ∷ ms) before others h =
      let kept = kept_of rules before m in
      let more = messages_kept rules (before ++ m ∷ []) ms in
      kept-append rules others kept more
      ∙ (λ i. kept_again before others m h i
      ++ all_kept_again ms (before ++ m ∷ []) (others ++ kept) (kept_suffices_behind before others m h) i)

  pub is_compaction : (ms : List (Activity S D C P G)) → IsCompaction rules ms
  is_compaction ms =
      let same = all_kept_suffice ms [] [] (state-refl rules []) in
      record {
        theirs = kept_are_theirs rules ms;
        state = same;
        interchangeable = interchangeable rules l (compacted rules ms) ms same;
        again = all_kept_again ms [] [] (state-refl rules []);
      }

  -- ---- several logs

  -- the compactions of logs, joined, have the state of the joined logs
  logs_compact : (logs : List (List (Activity S D C P G))) →
      HaveSameState rules (flat_map (compacted rules) logs) (flat_map (λ log. log) logs)
  logs_compact [] = state-refl rules []
  logs_compact (log ∷ logs) =
      state-joined rules l (compacted rules log) log (flat_map (compacted rules) logs) (flat_map (λ log. log) logs)
      (is_compaction log).state (logs_compact logs)

  pub logs_are_compact : (logs : List (List (Activity S D C P G))) → LogsCompact rules logs
  logs_are_compact logs =
      let parts = flat_map (compacted rules) logs in
      let all = flat_map (λ log. log) logs in
      let same = logs_compact logs in
      record {
        each = interchangeable rules l parts all same;
        joined = interchangeable rules l (compacted rules parts) all
            (state-trans rules (compacted rules parts) parts all (is_compaction parts).state same);
      }
