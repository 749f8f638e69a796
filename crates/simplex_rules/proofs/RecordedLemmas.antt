-- Which votes are recorded, vote by vote, slot by slot and round by round, and the evidence in the slots.
use Rattle.simplex_rules.proofs.Prelude.{Bool, Conflicting_finalize, Conflicting_notarize, Equivocation, Finalizes, IsEquivalence, EquivocationKind, List, Accusation, None, Nullifies, Nullify_finalize, Option, RecordedAreSlots, Round, SignedVote, Slot, Some, VoteKind, SubjectValue, [], and_left, and_parts, and_right, ap, append-nil, append_assoc, arith, equivocation_of, changes, clash, cond, cond-false, contradicts, evidence_from, evidence_of, excludes, false, false≢true, filter, filter-append, find, find-append, first_kind, have_news, if_differs, if◌then◌else◌, is_at, is_news, is_of, length, length-append, news_after, option_or, option_to_list, or-false, or_assoc, other_than, recorded_in, recorded_of, refl, round_of, same_Some, same_round, same_kind, second_kind, slot_of, slot_with, kind_of, sym, true, votes_in_slot, with_first, with_second, ℕ, ◌&&◌, ◌++◌, ◌+◌, ◌||◌, ◌∙◌, ◌∷◌, ◌≡◌, ◌≤◌}
use Rattle.simplex_scheme.specs.declared.kind.VoteKind.TheVariants as kinds
use Rattle.simplex_rules.proofs.EvidenceLemmas.{first_spot}
use Rattle.simplex_rules.proofs.Lists.{find_from_Contains, find_push, found, none_found}
use Rattle.simplex_rules.proofs.Places.{Spot, excludes_itself, is_at-true, same_kind-refl, spot}

module _ {D G : Type 0} (eq : D → D → Bool) (l : IsEquivalence eq) (vs : List (SignedVote D G)) (v : SignedVote D G) where
  -- the earliest other vote, after one more vote
  other_after : (kind : VoteKind) (round : Round) (signer : ℕ) (o : Option (SignedVote D G)) →
      find (is_at kind round signer) vs ≡ o → (b : Bool) → is_at kind round signer v ≡ b →
      other_than eq (vs ++ v ∷ []) kind round signer (cond b (option_or o (Some v)) o)
      ≡ cond b (option_or (other_than eq vs kind round signer o) (if_differs eq o v)) (other_than eq vs kind round signer o)
  other_after kind round signer None e true at =
      let test = λ (w : _). is_at kind round signer w && excludes eq v.subject w.subject in
      find_push test vs v ∙ cond-false (test v) _ _ (and_right (is_at kind round signer v) _ (excludes_itself eq l v.subject)) ∙
      none_found test vs (λ w w_in passes. let (u, is) = find_from_Contains (is_at kind round signer) vs w w_in
      (and_parts (is_at kind round signer w) (excludes eq v.subject w.subject) passes).0 in
      let both_are : None ≡ Some u = sym e ∙ is in absurd cc)
  other_after kind round signer None e false at = refl
  other_after kind round signer (Some a) e true at =
      let test = λ (w : _). is_at kind round signer w && excludes eq a.subject w.subject in
      find-append test vs (v ∷ [])
      ∙ ap (λ c. option_or (find test vs) (cond (c && excludes eq a.subject v.subject) (Some v) None)) at
  other_after kind round signer (Some a) e false at =
      let test = λ (w : _). is_at kind round signer w && excludes eq a.subject w.subject in
      find_push test vs v ∙ cond-false (test v) _ _ (and_left _ _ at)

  -- one more vote changes only its own slot
  pub slot_after_vote : (kind : VoteKind) (round : Round) (signer : ℕ) → slot_of eq (vs ++ v ∷ []) kind round signer ≡ (if is_at
      kind round signer v then slot_with eq v (slot_of eq vs kind round signer) else slot_of eq vs kind round signer)
  slot_after_vote kind round signer =
      let first = find_push (is_at kind round signer) vs v in
      let other = ap (other_than eq (vs ++ v ∷ []) kind round signer) first
      ∙ other_after kind round signer (find (is_at kind round signer) vs) refl (is_at kind round signer v) refl in
      (λ i. record { earliest = first i; other = other i }) ∙
      elim (is_at kind round signer v) as (λ b. record {
        earliest =
            cond b (slot_with eq v (slot_of eq vs kind round signer)).earliest (slot_of eq vs kind round signer).earliest;
        other = cond b (slot_with eq v (slot_of eq vs kind round signer)).other (slot_of eq vs kind round signer).other;
      } ≡ cond b (slot_with eq v (slot_of eq vs kind round signer)) (slot_of eq vs kind round signer))
      [ true ↦ refl | false ↦ refl ]

  -- the slot of a vote's own kind, round and signer is that of each spot that it is at
  pub own_slot : (s : Spot) → is_at s.kind s.round s.signer v ≡ true →
      slot_of eq vs (kind_of v.subject) (round_of v.subject) v.signer ≡ slot_of eq vs s.kind s.round s.signer
  own_slot s at = ap (λ (t : Spot). slot_of eq vs t.kind t.round t.signer) (is_at-true s v at)

  -- a vote that is no news changes no slot
  pub no_news : is_news eq vs v ≡ false → (s : Spot) →
      slot_of eq (vs ++ v ∷ []) s.kind s.round s.signer ≡ slot_of eq vs s.kind s.round s.signer
  no_news h s =
      slot_after_vote s.kind s.round s.signer
      ∙ (elim (is_at s.kind s.round s.signer v) as (λ b. is_at s.kind s.round s.signer v ≡ b → cond b (slot_with eq v (slot_of
      eq vs s.kind s.round s.signer)) (slot_of eq vs s.kind s.round s.signer) ≡ slot_of eq vs s.kind s.round s.signer) [
        | true ↦ λ e. stays _ _ (ap (λ (k : Slot D G). changes eq k.earliest k.other v.subject) (sym (own_slot s e)) ∙ h)
        | false ↦ λ e. refl
      ]) refl
    where
      stays : (first other : Option (SignedVote D G)) → changes eq first other v.subject ≡ false →
          slot_with eq v (record { earliest = first; other = other }) ≡ record { earliest = first; other = other }
      stays None other e = absurd (false≢true (sym e))
      stays (Some a) (Some w) e = refl
      stays (Some a) None e =
          ap (λ b. record { earliest = Some a; other = cond b (Some v) None })
          ((elim (excludes eq a.subject v.subject) as (λ b. (b && true) ≡ false → b ≡ false) [ true ↦ λ f. f | false ↦ λ f. f ])
          e)

-- ---- the evidence in the slots

-- the evidence of two votes consists of them
pub equivocation_of-Some : {D G : Type 0} (kind : EquivocationKind) (o p : Option (SignedVote D G)) (e : Equivocation D G) →
    equivocation_of kind o p ≡ Some e → (o ≡ Some e.first) × (p ≡ Some e.second)
equivocation_of-Some kind None p e h = absurd cc
equivocation_of-Some kind (Some v) None e h = absurd cc
equivocation_of-Some kind (Some v) (Some w) e h =
    (ap (λ x. Some x.first) (same_Some _ e h), ap (λ x. Some x.second) (same_Some _ e h))

module _ {D G : Type 0} (eq : D → D → Bool) where
  -- the test on the second vote, by its spot and its subject
  second_test : (n : Accusation) (v w : SignedVote D G) → spot v ≡ first_spot n →
      contradicts eq n.kind v w ≡ (is_at (second_kind n.kind) n.round n.signer w && excludes eq v.subject w.subject)
  second_test n v w at =
      (λ i. is_of (at i).round (at i).signer w && clash eq n.kind v.subject w.subject) ∙
      regroup (same_kind (kind_of v.subject) (first_kind n.kind)) (is_of n.round n.signer w)
      (same_kind (kind_of w.subject) (second_kind n.kind)) (excludes eq v.subject w.subject)
      (ap (λ (s : Spot). same_kind (kind_of v.subject) s.kind) (sym at) ∙ same_kind-refl (kind_of v.subject))
    where
      regroup : (f a s e : Bool) → f ≡ true → (a && (f && (s && e))) ≡ ((s && a) && e)
      regroup false a s e h = absurd (false≢true h)
      regroup true a true e h = refl
      regroup true a false e h = and_right a false refl

  -- so it seeks another vote at the first one's spot, and beside a nullify any finalize
  abbrev pub second_by : EquivocationKind → Round → ℕ → SignedVote D G → SignedVote D G → Bool
  second_by Conflicting_notarize round signer v w = is_at kinds.Notarize round signer w && excludes eq v.subject w.subject
  second_by Conflicting_finalize round signer v w = is_at kinds.Finalize round signer w && excludes eq v.subject w.subject
  second_by Nullify_finalize round signer v w = is_at kinds.Finalize round signer w

  pub second_agrees : (kind : EquivocationKind) (round : Round) (signer : ℕ) (v : SignedVote D G) →
      spot v ≡ first_spot (record { round = round; signer = signer; kind = kind }) → (w : SignedVote D G) →
      contradicts eq kind v w ≡ second_by kind round signer v w
  second_agrees Conflicting_notarize round signer v at w =
      second_test (record { round = round; signer = signer; kind = Conflicting_notarize }) v w at
  second_agrees Conflicting_finalize round signer v at w =
      second_test (record { round = round; signer = signer; kind = Conflicting_finalize }) v w at
  second_agrees Nullify_finalize round signer v at w =
      second_test (record { round = round; signer = signer; kind = Nullify_finalize }) v w at
      ∙ any v.subject w.subject (is_of round signer w) (λ i. (at i).kind)
    where
      any : (x y : SubjectValue D) (a : Bool) → kind_of x ≡ kinds.Nullify →
          ((same_kind (kind_of y) kinds.Finalize && a) && excludes eq x y) ≡ (same_kind (kind_of y) kinds.Finalize && a)
      any (Nullifies r) (Finalizes q) true e = refl
      any (Nullifies r) (Finalizes q) false e = refl
      any (Nullifies r) _ a e = refl
      any _ y a e = absurd cc

module _ {D G : Type 0} (eq : D → D → Bool) (vs : List (SignedVote D G)) where
  -- the evidence of an accusation follows from the slots
  pub evidence_of-slots : (n : Accusation) →
      evidence_of eq vs n ≡ evidence_from (λ kind. slot_of eq vs kind n.round n.signer) n.kind
  evidence_of-slots n = by (find (is_at (first_kind n.kind) n.round n.signer) vs) refl ∙ slots_of n.kind
    where
      -- the second vote, where there is a first
      second : EquivocationKind → Option (SignedVote D G) → Option (SignedVote D G)
      second kind None = None
      second kind (Some v) = find (second_by eq kind n.round n.signer v) vs

      by : (o : Option (SignedVote D G)) → find (is_at (first_kind n.kind) n.round n.signer) vs ≡ o →
          with_first eq vs n.kind o ≡ equivocation_of n.kind o (second n.kind o)
      by None e = refl
      by (Some v) e = λ i.
          with_second n.kind v
          (find (λ w. second_agrees eq n.kind n.round n.signer v (is_at-true (first_spot n) v (found _ vs v e).1) w i) vs)

      slots_of : (kind : EquivocationKind) → equivocation_of kind (find (is_at (first_kind kind) n.round n.signer) vs)
          (second kind (find (is_at (first_kind kind) n.round n.signer) vs))
          ≡ evidence_from (λ kind. slot_of eq vs kind n.round n.signer) kind
      slots_of Conflicting_notarize =
          elim (find (is_at kinds.Notarize n.round n.signer)
          vs) as (λ o. equivocation_of Conflicting_notarize o (second Conflicting_notarize o) ≡ equivocation_of
          Conflicting_notarize o (other_than eq vs kinds.Notarize n.round n.signer o)) [ None ↦ refl | Some v ↦ refl ]
      slots_of Conflicting_finalize =
          elim (find (is_at kinds.Finalize n.round n.signer)
          vs) as (λ o. equivocation_of Conflicting_finalize o (second Conflicting_finalize o) ≡ equivocation_of
          Conflicting_finalize o (other_than eq vs kinds.Finalize n.round n.signer o)) [ None ↦ refl | Some v ↦ refl ]
      slots_of Nullify_finalize =
          elim (find (is_at kinds.Nullify n.round n.signer) vs) as (λ o. equivocation_of Nullify_finalize o
          (second Nullify_finalize o) ≡ equivocation_of Nullify_finalize o (find (is_at kinds.Finalize n.round n.signer) vs))
          [ None ↦ refl | Some v ↦ refl ]

-- ---- what is recorded, vote by vote

-- whether a vote is of a round
abbrev pub of_round : {D G : Type 0} → Round → SignedVote D G → Bool
of_round round v = same_round (round_of v.subject) round

-- a vote, if it is news
abbrev if_news : {D G : Type 0} → (D → D → Bool) → List (SignedVote D G) → SignedVote D G → List (SignedVote D G)
if_news eq vs v = cond (is_news eq vs v) (v ∷ []) []

-- a list of one at most, filtered
filter_if : {X : Type 0} (p : X → Bool) (b : Bool) (x : X) → filter p (cond b (x ∷ []) []) ≡ cond (p x && b) (x ∷ []) []
filter_if p true x = elim (p x) as (λ c. cond c (x ∷ []) [] ≡ cond (c && true) (x ∷ []) []) [ true ↦ refl | false ↦ refl ]
filter_if p false x = elim (p x) as (λ c. [] ≡ cond (c && false) (x ∷ []) []) [ true ↦ refl | false ↦ refl ]

-- the news with one more vote
news_push : {D G : Type 0} (eq : D → D → Bool) (before vs : List (SignedVote D G)) (v : SignedVote D G) →
    news_after eq before (vs ++ v ∷ []) ≡ news_after eq before vs ++ if_news eq (before ++ vs) v
news_push eq before [] v = append-nil (if_news eq before v) ∙ ap (λ ws. if_news eq ws v) (sym (append-nil before))
news_push eq before (w ∷ vs) v =
    ap (λ ws. if_news eq before w ++ ws) (news_push eq (before ++ w ∷ []) vs v
    ∙ ap (λ ws. news_after eq (before ++ w ∷ []) vs ++ if_news eq ws v) (append_assoc before (w ∷ []) vs)) ∙
    sym (append_assoc (if_news eq before w) (news_after eq (before ++ w ∷ []) vs) (if_news eq (before ++ w ∷ vs) v))

-- as many votes of a round are recorded as before, and one more if the vote is news of that round
pub recorded_in_push : {D G : Type 0} (eq : D → D → Bool) (vs : List (SignedVote D G)) (v : SignedVote D G) (round : Round) →
    recorded_in eq (vs ++ v ∷ []) round
    ≡ recorded_in eq vs round + length (cond (of_round round v && is_news eq vs v) (v ∷ []) [])
recorded_in_push eq vs v round =
    ap (λ ws. length (filter (of_round round) ws)) (news_push eq [] vs v) ∙
    ap length (filter-append (of_round round) (recorded_of eq vs) (if_news eq vs v)
    ∙ ap (λ ws. filter (of_round round) (recorded_of eq vs) ++ ws) (filter_if (of_round round) (is_news eq vs v) v)) ∙
    length-append (filter (of_round round) (recorded_of eq vs)) (cond (of_round round v && is_news eq vs v) (v ∷ []) [])

-- ---- what is recorded, slot by slot

module _ {D G : Type 0} (eq : D → D → Bool) (l : IsEquivalence eq) (s : Spot) where
  -- the votes in the slot of a list
  abbrev pub in_slot : List (SignedVote D G) → List (SignedVote D G)
  in_slot vs = votes_in_slot (slot_of eq vs s.kind s.round s.signer)

  -- a slot with one more vote has that vote too, if it changes the slot
  votes_with : (v : SignedVote D G) (first other : Option (SignedVote D G)) → (first ≡ None → other ≡ None) →
      votes_in_slot (slot_with eq v (record { earliest = first; other = other }))
      ≡ votes_in_slot (record { earliest = first; other = other }) ++ cond (changes eq first other v.subject) (v ∷ []) []
  votes_with v None None h = refl
  votes_with v None (Some w) h = let none : Some w ≡ None = h refl in absurd cc
  votes_with v (Some a) None h =
      elim (excludes eq a.subject v.subject) as (λ b. votes_in_slot (record { earliest = Some a; other = cond b (Some v) None })
      ≡ (a ∷ []) ++ cond (b && true) (v ∷ []) []) [ true ↦ refl | false ↦ refl ]
  votes_with v (Some a) (Some w) h =
      elim (excludes eq a.subject v.subject) as (λ b. (a ∷ w ∷ []) ≡ (a ∷ w ∷ []) ++ cond (b && false) (v ∷ []) [])
      [ true ↦ refl | false ↦ refl ]

  -- the votes in the slot after one more vote
  in_slot_push : (vs : List (SignedVote D G)) (v : SignedVote D G) →
      in_slot (vs ++ v ∷ []) ≡ in_slot vs ++ filter (is_at s.kind s.round s.signer) (if_news eq vs v)
  in_slot_push vs v =
      let k = slot_of eq vs s.kind s.round s.signer in
      let first = find (is_at s.kind s.round s.signer) vs in
      ap votes_in_slot (slot_after_vote eq l vs v s.kind s.round s.signer) ∙
      (elim (is_at s.kind s.round s.signer v) as (λ b. is_at s.kind s.round s.signer v ≡ b →
      votes_in_slot (cond b (slot_with eq v k) k) ≡ votes_in_slot k ++ cond (b && is_news eq vs v) (v ∷ []) []) [
        | true ↦ λ e.
            votes_with v first (other_than eq vs s.kind s.round s.signer first) (ap (other_than eq vs s.kind s.round s.signer))
            ∙ ap (λ (x : Slot D G). in_slot vs ++ cond (changes eq x.earliest x.other v.subject) (v ∷ []) [])
            (sym (own_slot eq l vs v s e))
        | false ↦ λ e. sym (append-nil (in_slot vs))
      ]) refl ∙
      ap (λ ws. in_slot vs ++ ws) (sym (filter_if (is_at s.kind s.round s.signer) (is_news eq vs v) v))

  -- the votes in the slot after more votes are those before and the news at this spot
  pub in_slot_after : (before vs : List (SignedVote D G)) →
      in_slot (before ++ vs) ≡ in_slot before ++ filter (is_at s.kind s.round s.signer) (news_after eq before vs)
  in_slot_after before [] = ap in_slot (append-nil before) ∙ sym (append-nil (in_slot before))
  in_slot_after before (v ∷ vs) =
      let at = is_at s.kind s.round s.signer in
      ap in_slot (sym (append_assoc before (v ∷ []) vs)) ∙ in_slot_after (before ++ v ∷ []) vs ∙
      ap (λ ws. ws ++ filter at (news_after eq (before ++ v ∷ []) vs)) (in_slot_push before v) ∙
      append_assoc (in_slot before) (filter at (if_news eq before v)) (filter at (news_after eq (before ++ v ∷ []) vs)) ∙
      ap (λ ws. in_slot before ++ ws) (sym (filter-append at (if_news eq before v) (news_after eq (before ++ v ∷ []) vs)))

-- the recorded votes of a kind, round and signer are the votes in their slot
pub recorded_are_slots : {D G : Type 0} (eq : D → D → Bool) → IsEquivalence eq → (vs : List (SignedVote D G)) →
    RecordedAreSlots eq vs
recorded_are_slots eq l vs kind round signer =
    sym (in_slot_after eq l (record { kind = kind; round = round; signer = signer }) [] vs)

module _ {D G : Type 0} (eq : D → D → Bool) (l : IsEquivalence eq) (vs : List (SignedVote D G)) (round : Round) where
  -- nullifies of one round do not exclude each other: there is no other one
  no_other_nullify : (signer : ℕ) (o : Option (SignedVote D G)) → find (is_at kinds.Nullify round signer) vs ≡ o →
      other_than eq vs kinds.Nullify round signer o ≡ None
  no_other_nullify signer None is = refl
  no_other_nullify signer (Some v) is =
      none_found (λ w. is_at kinds.Nullify round signer w && excludes eq v.subject w.subject) vs (λ w w_in passes.
      let p = and_parts (is_at kinds.Nullify round signer w) (excludes eq v.subject w.subject) passes in
      let at : Spot = record { kind = kinds.Nullify; round = round; signer = signer } in
      agree v.subject w.subject (λ i. (is_at-true at v (found _ vs v is).1 i).kind) (λ i. (is_at-true at w p.0 i).kind) p.1)
    where
      agree : (x y : SubjectValue D) → kind_of x ≡ kinds.Nullify → kind_of y ≡ kinds.Nullify → excludes eq x y ≡ true → ⊥
      agree (Nullifies p) (Nullifies q) s t h = false≢true h
      agree _ _ s t h = absurd cc

  -- the votes of a signer in a round, kind by kind
  by_kinds : (signer : ℕ) (ws : List (SignedVote D G)) →
      length (filter (is_of round signer) ws) ≡ length (filter (is_at kinds.Notarize round signer) ws)
      + (length (filter (is_at kinds.Nullify round signer) ws) + length (filter (is_at kinds.Finalize round signer) ws))
  by_kinds signer [] = omega arith
  by_kinds signer (w ∷ ws) =
      of_one (kind_of w.subject) (is_of round signer w) w (filter (is_of round signer) ws)
      (filter (is_at kinds.Notarize round signer) ws) (filter (is_at kinds.Nullify round signer) ws)
      (filter (is_at kinds.Finalize round signer) ws) (by_kinds signer ws)
    where
      of_one : (s : VoteKind) (b : Bool) (x : SignedVote D G) (all ns us fs : List (SignedVote D G)) →
          length all ≡ length ns + (length us + length fs) →
          length (cond b (x ∷ all) all) ≡ length (cond (same_kind s kinds.Notarize && b) (x ∷ ns) ns)
          + (length (cond (same_kind s kinds.Nullify && b) (x ∷ us) us)
          + length (cond (same_kind s kinds.Finalize && b) (x ∷ fs) fs))
      of_one kinds.Notarize true x all ns us fs h = omega (arith, h)
      of_one kinds.Notarize false x all ns us fs h = h
      of_one _ true x all ns us fs h = omega (arith, h)
      of_one _ false x all ns us fs h = h

  -- at most five votes of a signer in the round are recorded
  pub few_are_recorded : (signer : ℕ) → length (filter (is_of round signer) (recorded_of eq vs)) ≤ 5
  few_are_recorded signer =
      let at_most : (o : Option (SignedVote D G)) → length (option_to_list o) ≤ 1 =
      elim [ None ↦ omega arith | Some x ↦ omega arith ] in
      let in_slot = λ (kind : VoteKind). slot_of eq vs kind round signer in
      let has = λ (kind : VoteKind). ap length (recorded_are_slots eq l vs kind round signer)
      ∙ length-append (option_to_list (in_slot kind).earliest) (option_to_list (in_slot kind).other) in
      let one = ap (λ o. length (option_to_list o))
      (no_other_nullify signer (find (is_at kinds.Nullify round signer) vs) refl) in
      omega (
        arith,
        by_kinds signer (recorded_of eq vs),
        has kinds.Notarize,
        has kinds.Nullify,
        has kinds.Finalize,
        at_most (in_slot kinds.Notarize).earliest,
        at_most (in_slot kinds.Notarize).other,
        at_most (in_slot kinds.Nullify).earliest,
        one,
        at_most (in_slot kinds.Finalize).earliest,
        at_most (in_slot kinds.Finalize).other,
      )

-- ---- which votes are news

-- the news of two lists of votes, one after the other
pub have_news-append : {D G : Type 0} (eq : D → D → Bool) (before vs ws : List (SignedVote D G)) →
    have_news eq before (vs ++ ws) ≡ (have_news eq before vs || have_news eq (before ++ vs) ws)
have_news-append eq before [] ws = ap (λ us. have_news eq us ws) (sym (append-nil before))
have_news-append eq before (v ∷ vs) ws =
    ap (λ b. is_news eq before v || b) (have_news-append eq (before ++ v ∷ []) vs ws
    ∙ ap (λ us. have_news eq (before ++ v ∷ []) vs || have_news eq us ws) (append_assoc before (v ∷ []) vs)) ∙
    sym (or_assoc (is_news eq before v) (have_news eq (before ++ v ∷ []) vs) (have_news eq (before ++ v ∷ vs) ws))

-- the news of one vote at most
pub have_news-one : {D G : Type 0} (eq : D → D → Bool) (vs : List (SignedVote D G)) (v : SignedVote D G) (b : Bool) →
    have_news eq vs (cond b (v ∷ []) []) ≡ (b && is_news eq vs v)
have_news-one eq vs v true = or-false (is_news eq vs v)
have_news-one eq vs v false = refl

module _ {D G : Type 0} (eq : D → D → Bool) where
  -- the news of two lists of votes, one after the other
  pub news_after-append : (before vs ws : List (SignedVote D G)) →
      news_after eq before (vs ++ ws) ≡ news_after eq before vs ++ news_after eq (before ++ vs) ws
  news_after-append before [] ws = ap (λ us. news_after eq us ws) (sym (append-nil before))
  news_after-append before (v ∷ vs) ws =
      let first = cond (is_news eq before v) (v ∷ []) [] in
      let rest = news_after eq (before ++ v ∷ []) vs in
      ap (λ us. first ++ us) (news_after-append (before ++ v ∷ []) vs ws
      ∙ ap (λ us. rest ++ news_after eq us ws) (append_assoc before (v ∷ []) vs))
      ∙ sym (append_assoc first rest (news_after eq (before ++ v ∷ vs) ws))
