-- Messages with the same state: what any messages before and behind them make of it, and what they report.
use Rattle.simplex_rules.proofs.Prelude.{Activity, AreSplits, Bool, Contains, Contains-append_cases, Contains-append_left, Contains-append_right, Equivocation, Finalizes, IsEquivalence, IsEvidence, List, Accusation, None, Notarizes, Nullifies, Option, Round, Rules, SignedVote, Slot, Some, VoteKind, SubjectValue, [], and_from, and_parts, ap, append-nil, are_split, cases_Bool, certified_in, certified_subjects, cond, cond-true, evidence_from, evidence_of, excludes, false, false≢true, filter, filter_map-append, find, find-append, first_certified, inl, inr, is_accused, is_at, is_some, not, option_or, other_than, recorded_of, refl, round_of, same_Some, same_round, same_kind, slot_of, kind_of, split_of, subst, sym, true, valid_votes, votes_in_slot, votes_recorded, ⊎_elim, ◌&&◌, ◌++◌, ◌∙◌, ◌∷◌, ◌≡◌, ◌⊎◌}
use Rattle.simplex_rules.specs.declared.split.Split.{Split}
use Rattle.simplex_rules.specs.Interchange.{AreInterchangeable, HaveSameState, SameStateJoined}
use Rattle.simplex_rules.proofs.EvidenceLemmas.{evidence_exists, moved_evidence, valid_votes-append}
use Rattle.simplex_rules.proofs.Filters.{same_length}
use Rattle.simplex_rules.proofs.Lists.{find_from_Contains, found, none_found, same_bool}
use Rattle.simplex_rules.proofs.Places.{Spot, excludes-flip, excludes_one, is_at-from, is_at-true, same_proposal_equiv, same_round-from, same_round-true, same_kind-refl, same_kind-true, spot}
use Rattle.simplex_rules.proofs.RecordedLemmas.{evidence_of-slots, recorded_are_slots}
use Rattle.simplex_rules.proofs.SplitLemmas.{moved_splits, opposites, same_split, split_by, split_more}
use Rattle.simplex_laws.proofs.SuspectLemmas.{same_count}

-- ---- `find` among more

-- what is found first, and passes another test too, is the first that passes both
find-also : {X : Type 0} (p q : X → Bool) (xs : List X) (x : X) → find p xs ≡ Some x → q x ≡ true → find (λ y. p y && q y) xs
    ≡ Some x
find-also p q [] x h e = absurd cc
find-also p q (y ∷ ys) x h e =
    (elim (p y) as (λ b. p y ≡ b → cond b (Some y) (find p ys) ≡ Some x → cond (b && q y) (Some y) (find (λ z. p z && q z) ys)
    ≡ Some x) [
      | true ↦ λ d is. cond-true (q y) (Some y) (find (λ z. p z && q z) ys) (ap q (same_Some y x is) ∙ e) ∙ is
      | false ↦ λ d is. find-also p q ys x is e
    ]) refl h

-- lists in which the same is found are interchangeable among others
find-among : {X : Type 0} (p : X → Bool) (before xs ys more : List X) → find p xs ≡ find p ys → find p (before ++ (xs ++ more))
    ≡ find p (before ++ (ys ++ more))
find-among p before xs ys more h =
    find-append p before (xs ++ more) ∙ ap (option_or (find p before))
    (find-append p xs more ∙ ap (λ o. option_or o (find p more)) h ∙ sym (find-append p ys more))
    ∙ sym (find-append p before (ys ++ more))

-- ---- votes

-- a test whose negation fails passes
same_from_not : (b : Bool) → not b ≡ false → b ≡ true
same_from_not true h = refl
same_from_not false h = absurd (false≢true (sym h))

-- subjects of one kind that do not exclude each other exclude the same subjects of that kind
excludes-alike : {D : Type 0} (eq : D → D → Bool) → IsEquivalence eq → (x y z : SubjectValue D) → kind_of x ≡ kind_of z →
    kind_of y ≡ kind_of z → excludes eq x y ≡ false → excludes eq x z ≡ excludes eq y z
excludes-alike eq l (Notarizes p) (Notarizes q) (Notarizes r) s t h =
    ap not ((same_proposal_equiv l).congr p q r (same_from_not _ h))
excludes-alike eq l (Finalizes p) (Finalizes q) (Finalizes r) s t h =
    ap not ((same_proposal_equiv l).congr p q r (same_from_not _ h))
excludes-alike eq l (Nullifies p) (Nullifies q) (Nullifies r) s t h = refl
excludes-alike eq l _ _ _ s t h = absurd cc

-- the earliest vote of a slot that a vote excludes
abbrev other_from : {D G : Type 0} → (D → D → Bool) → SignedVote D G → Option (SignedVote D G) → Option (SignedVote D G) →
    Option (SignedVote D G)
other_from eq v None other = None
other_from eq v (Some w) other = cond (excludes eq v.subject w.subject) (Some w) other

module _ {D G : Type 0} (eq : D → D → Bool) (l : IsEquivalence eq) (s : Spot) where
  -- whether a vote is at the spot
  abbrev here : SignedVote D G → Bool
  here = is_at s.kind s.round s.signer

  -- which vote at the spot is the earliest that a vote there excludes follows from the slot
  excluded_first : (vs : List (SignedVote D G)) (v : SignedVote D G) → here v ≡ true → (o : Option (SignedVote D G)) →
      find here vs ≡ o → find (λ w. here w && excludes eq v.subject w.subject) vs ≡ other_from eq v o
      (other_than eq vs s.kind s.round s.signer o)
  excluded_first vs v v_here None e = none_found (λ w. here w && excludes eq v.subject w.subject) vs
      (λ w w_in passes. let (u, is) = find_from_Contains here vs w w_in
      (and_parts (here w) (excludes eq v.subject w.subject) passes).0 in let both_are : None ≡ Some u = sym e ∙ is in absurd cc)
  excluded_first vs v v_here (Some w) e =
      (elim (excludes eq v.subject w.subject) as (λ b. excludes eq v.subject w.subject ≡ b →
      find (λ x. here x && excludes eq v.subject x.subject) vs ≡ cond b (Some w)
      (find (λ x. here x && excludes eq w.subject x.subject) vs)) [
        | true ↦ λ h. find-also here (λ x. excludes eq v.subject x.subject) vs w e h
        | false ↦ λ h i. find (λ x. alike h x i) vs
      ]) refl
    where
      kind_is : (x : SignedVote D G) → here x ≡ true → kind_of x.subject ≡ s.kind
      kind_is x x_here i = (is_at-true s x x_here i).kind

      alike : excludes eq v.subject w.subject ≡ false → (x : SignedVote D G) → (here x && excludes eq v.subject x.subject)
          ≡ (here x && excludes eq w.subject x.subject)
      alike h x = (elim (here x) as (λ b. here x ≡ b → (b && excludes eq v.subject x.subject)
          ≡ (b && excludes eq w.subject x.subject)) [
            | true ↦ λ x_here. excludes-alike eq l v.subject w.subject x.subject (kind_is v v_here ∙ sym (kind_is x x_here))
                (kind_is w (found here vs w e).1 ∙ sym (kind_is x x_here)) h
            | false ↦ λ x_here. refl
          ]) refl

  -- votes with the same slot have the same slot among any others
  pub same_slot_among : (before vs ws more : List (SignedVote D G)) → slot_of eq vs s.kind s.round s.signer
      ≡ slot_of eq ws s.kind s.round s.signer → slot_of eq (before ++ (vs ++ more)) s.kind s.round s.signer ≡ slot_of eq
      (before ++ (ws ++ more)) s.kind s.round s.signer
  same_slot_among before vs ws more h =
      let all = before ++ (vs ++ more) in
      let others = before ++ (ws ++ more) in
      let first : find here all ≡ find here others = find-among here before vs ws more (ap (λ (k : Slot D G). k.earliest) h) in
      let other = by (find here all) refl ∙ ap (other_than eq others s.kind s.round s.signer) first in
      λ i. record { earliest = first i; other = other i }
    where
      by : (o : Option (SignedVote D G)) → find here (before ++ (vs ++ more)) ≡ o →
          other_than eq (before ++ (vs ++ more)) s.kind s.round s.signer o ≡ other_than eq
          (before ++ (ws ++ more)) s.kind s.round s.signer o
      by None e = refl
      by (Some v) e =
          let v_here = (found here (before ++ (vs ++ more)) v e).1 in
          find-among (λ w. here w && excludes eq v.subject w.subject) before vs ws more
          (excluded_first vs v v_here (find here vs) refl ∙ ap (λ (k : Slot D G). other_from eq v k.earliest k.other) h
          ∙ sym (excluded_first ws v v_here (find here ws) refl))

-- ---- certified subjects

-- one list can take the place of the other: its round is split alike, and has the same firsts until it is
module _ {D : Type 0} (eq : D → D → Bool) (l : IsEquivalence eq) (round : Round) (xs ys all others : List (SubjectValue D))
    (parted : (x : SubjectValue D) → Contains all x → Contains xs x ⊎ Contains others x) (within : (y : SubjectValue D) →
    Contains ys y → Contains others y) (same_split : are_split eq xs round ≡ are_split eq ys round)
    (same_firsts : are_split eq xs round ≡ false → (kind : VoteKind) → first_certified xs round kind
    ≡ first_certified ys round kind) where
  -- what excludes a subject of the one list splits the round with the other
  split_meets : are_split eq xs round ≡ false → (x y : SubjectValue D) → Contains xs x → Contains others y → round_of x
      ≡ round → round_of y ≡ round → excludes eq x y ≡ true → are_split eq others round ≡ true
  split_meets whole x y x_in y_in x_here y_here against =
      let test : SubjectValue D → Bool = λ z. same_kind (kind_of z) (kind_of x) && same_round (round_of z) round in
      let (a, is) = find_from_Contains test xs x x_in
      (and_from _ _ (same_kind-refl (kind_of x)) (same_round-from _ _ x_here)) in
      let (a_in, passes) = found test xs a is in
      let p = and_parts (same_kind (kind_of a) (kind_of x)) (same_round (round_of a) round) passes in
      let a_here = same_round-true _ _ p.1 in
      let also : find test ys ≡ Some a = sym (same_firsts whole (kind_of x)) ∙ is in
      ⊎_elim
      (λ e. absurd (false≢true
      (sym whole ∙ split_by eq xs round (record {
        x = a;
        y = x;
        x_in = a_in;
        y_in = x_in;
        x_here = a_here;
        y_here = x_here;
        against = e;
      }))))
      (λ e. split_by eq others round (record {
        x = a;
        y = y;
        x_in = within a (found test ys a also).0;
        y_in = y_in;
        x_here =
            a_here;
        y_here = y_here;
        against = e;
      }))
      (excludes_one eq l a x y (same_kind-true _ _ p.0) against)

  split_too : are_split eq all round ≡ true → are_split eq others round ≡ true
  split_too h = elim (cases_Bool (are_split eq xs round)) [
    | inl e ↦ split_more eq ys others round (λ y y_in y_here. within y y_in) (sym same_split ∙ e)
    | inr whole ↦
        let o = opposites eq all round h in
        elim (parted o.x o.x_in) [
          | inl x_in ↦ elim (parted o.y o.y_in) [
            | inl y_in ↦ absurd (false≢true
                (sym whole ∙ split_by eq xs round
                (record {
                  x = o.x;
                  y = o.y;
                  x_in = x_in;
                  y_in = y_in;
                  x_here = o.x_here;
                  y_here = o.y_here;
                  against =
                      o.against;
                })))
            | inr y_in ↦ split_meets whole o.x o.y x_in y_in o.x_here o.y_here o.against
          ]
          | inr x_in ↦ elim (parted o.y o.y_in) [
            | inl y_in ↦ split_meets whole o.y o.x y_in x_in o.y_here o.x_here (excludes-flip eq l o.y o.x ∙ o.against)
            | inr y_in ↦ split_by eq others round
                (record {
                  x = o.x;
                  y = o.y;
                  x_in = x_in;
                  y_in = y_in;
                  x_here = o.x_here;
                  y_here = o.y_here;
                  against =
                      o.against;
                })
          ]
        ]
  ]

module _ {D : Type 0} (eq : D → D → Bool) (l : IsEquivalence eq) (round : Round)
    (before xs ys more : List (SubjectValue D)) where
  -- an element of one list among others is one of the list, or one of the other list among them
  among_parted : (x : SubjectValue D) → Contains (before ++ (xs ++ more)) x → Contains xs x ⊎ Contains
      (before ++ (ys ++ more)) x
  among_parted x h = ⊎_elim (λ first. inr (Contains-append_left before (ys ++ more) x first))
      (λ later. ⊎_elim inl (λ last. inr (Contains-append_right before (ys ++ more) x (Contains-append_right ys more x last)))
      (Contains-append_cases xs more x later)) (Contains-append_cases before (xs ++ more) x h)

  among_within : (y : SubjectValue D) → Contains ys y → Contains (before ++ (ys ++ more)) y
  among_within y h = Contains-append_right before (ys ++ more) y (Contains-append_left ys more y h)

  among_split : are_split eq xs round ≡ are_split eq ys round → (are_split eq xs round ≡ false → (kind : VoteKind) →
      first_certified xs round kind ≡ first_certified ys round kind) → are_split eq (before ++ (xs ++ more)) round ≡ true →
      are_split eq (before ++ (ys ++ more)) round ≡ true
  among_split = split_too eq l round xs ys (before ++ (xs ++ more)) (before ++ (ys ++ more)) among_parted among_within

-- subjects that split a round alike and have the same firsts do so among any others
module _ {D : Type 0} (eq : D → D → Bool) (l : IsEquivalence eq) (round : Round) (before xs ys more : List (SubjectValue D))
    (same_split : are_split eq xs round ≡ are_split eq ys round)
    (same_firsts : are_split eq xs round ≡ false → (kind : VoteKind) →
    first_certified xs round kind ≡ first_certified ys round kind) where
  same_split_among : are_split eq (before ++ (xs ++ more)) round ≡ are_split eq (before ++ (ys ++ more)) round
  same_split_among = same_bool _ _ (among_split eq l round before xs ys more same_split same_firsts)
      (among_split eq l round before ys xs more (sym same_split) (λ whole kind. sym (same_firsts (same_split ∙ whole) kind)))

  same_firsts_among : are_split eq (before ++ (xs ++ more)) round ≡ false → (kind : VoteKind) → first_certified
      (before ++ (xs ++ more)) round kind ≡ first_certified (before ++ (ys ++ more)) round kind
  same_firsts_among whole kind =
      find-among (λ x. same_kind (kind_of x) kind && same_round (round_of x) round) before xs ys more
      (same_firsts xs_whole kind)
    where
      xs_whole : are_split eq xs round ≡ false
      xs_whole = ⊎_elim (λ e. absurd
          (false≢true (sym whole ∙ split_more eq xs (before ++ (xs ++ more)) round
          (λ x x_in x_here. Contains-append_right before (xs ++ more) x (Contains-append_left xs more x x_in)) e))) (λ e. e)
          (cases_Bool (are_split eq xs round))

-- ---- messages

module _ {S D C P G : Type 0} (rules : Rules S D C P G) where
  votes_among : (before ms more : List (Activity S D C P G)) → valid_votes rules (before ++ (ms ++ more))
      ≡ valid_votes rules before ++ (valid_votes rules ms ++ valid_votes rules more)
  votes_among before ms more = valid_votes-append rules before (ms ++ more) ∙ ap (λ vs. valid_votes rules before ++ vs)
      (valid_votes-append rules ms more)

  subjects_among : (before ms more : List (Activity S D C P G)) → certified_subjects rules (before ++ (ms ++ more))
      ≡ certified_subjects rules before ++ (certified_subjects rules ms ++ certified_subjects rules more)
  subjects_among before ms more = filter_map-append (certified_in rules) before (ms ++ more)
      ∙ ap (λ xs. certified_subjects rules before ++ xs) (filter_map-append (certified_in rules) ms more)

  -- ---- the same state is an equivalence

  pub state-refl : (ms : List (Activity S D C P G)) → HaveSameState rules ms ms
  state-refl ms = record { votes = λ kind round signer. refl; splits = λ round. refl; firsts = λ round whole kind. refl }

  pub state-sym : (ms ns : List (Activity S D C P G)) → HaveSameState rules ms ns → HaveSameState rules ns ms
  state-sym ms ns h = record {
    votes = λ kind round signer. sym (h.votes kind round signer);
    splits =
        λ round. sym (h.splits round);
    firsts = λ round whole kind. sym (h.firsts round (h.splits round ∙ whole) kind);
  }

  pub state-trans : (ms ns ks : List (Activity S D C P G)) → HaveSameState rules ms ns → HaveSameState rules ns ks →
      HaveSameState rules ms ks
  state-trans ms ns ks h k = record {
    votes = λ kind round signer. h.votes kind round signer ∙ k.votes kind round signer;
    splits = λ round. h.splits round ∙ k.splits round;
    firsts = λ round whole kind. h.firsts round whole kind
        ∙ k.firsts round (sym (h.splits round) ∙ whole) kind;
  }

  module _ (l : IsEquivalence rules.eq) where
    -- messages with the same state have the same state among any others
    pub state-among : (ms ns before more : List (Activity S D C P G)) → HaveSameState rules ms ns → HaveSameState rules
        (before ++ (ms ++ more)) (before ++ (ns ++ more))
    state-among ms ns before more h =
        let ms_votes = votes_among before ms more in
        let ns_votes = votes_among before ns more in
        let ms_subjects = subjects_among before ms more in
        let ns_subjects = subjects_among before ns more in
        let b = certified_subjects rules before in
        let m = certified_subjects rules more in
        record {
          votes = λ kind round signer.
              ap (λ vs. slot_of rules.eq vs kind round signer) ms_votes ∙
              same_slot_among rules.eq l (record { kind = kind; round = round; signer = signer }) (valid_votes rules before)
              (valid_votes rules ms) (valid_votes rules ns) (valid_votes rules more) (h.votes kind round signer) ∙
              ap (λ vs. slot_of rules.eq vs kind round signer) (sym ns_votes);
          splits = λ round.
              ap (λ xs. are_split rules.eq xs round) ms_subjects ∙
              same_split_among rules.eq l round b (certified_subjects rules ms) (certified_subjects rules ns) m
              (h.splits round) (h.firsts round) ∙
              ap (λ xs. are_split rules.eq xs round) (sym ns_subjects);
          firsts = λ round whole kind.
              ap (λ xs. first_certified xs round kind) ms_subjects ∙
              same_firsts_among rules.eq l round b (certified_subjects rules ms) (certified_subjects rules ns) m
              (h.splits round) (h.firsts round) (ap (λ xs. are_split rules.eq xs round) (sym ms_subjects) ∙ whole) kind ∙
              ap (λ xs. first_certified xs round kind) (sym ns_subjects);
        }

    -- and with one message more
    pub state-push : (ms ns : List (Activity S D C P G)) (m : Activity S D C P G) → HaveSameState rules ms ns →
        HaveSameState rules (ms ++ m ∷ []) (ns ++ m ∷ [])
    state-push ms ns m h = state-among ms ns [] (m ∷ []) h

    -- ---- messages with the same state report the same

    module _ (ms ns : List (Activity S D C P G)) (h : HaveSameState rules ms ns) where
      same_evidence_at : (n : Accusation) → evidence_of rules.eq (valid_votes rules ms) n ≡ evidence_of rules.eq
          (valid_votes rules ns) n
      same_evidence_at n = evidence_of-slots rules.eq (valid_votes rules ms) n
          ∙ (λ i. evidence_from (λ kind. h.votes kind n.round n.signer i) n.kind)
          ∙ sym (evidence_of-slots rules.eq (valid_votes rules ns) n)

      same_accused_at : (n : Accusation) → is_accused rules.eq (valid_votes rules ms) n ≡ is_accused rules.eq
          (valid_votes rules ns) n
      same_accused_at n = sym (evidence_exists rules.eq (valid_votes rules ms) l n) ∙ ap is_some (same_evidence_at n)
          ∙ evidence_exists rules.eq (valid_votes rules ns) l n

      -- the recorded votes of each kind, round and signer are the same
      same_recorded : (s : Spot) → filter (is_at s.kind s.round s.signer) (recorded_of rules.eq (valid_votes rules ms))
          ≡ filter (is_at s.kind s.round s.signer) (recorded_of rules.eq (valid_votes rules ns))
      same_recorded s =
          recorded_are_slots rules.eq l (valid_votes rules ms) s.kind s.round s.signer
          ∙ ap votes_in_slot (h.votes s.kind s.round s.signer)
          ∙ sym (recorded_are_slots rules.eq l (valid_votes rules ns) s.kind s.round s.signer)

      -- so there are as many
      same_recorded_count : votes_recorded rules.eq (valid_votes rules ms) ≡ votes_recorded rules.eq (valid_votes rules ns)
      same_recorded_count =
          same_length (λ v. is_at (spot v).kind (spot v).round (spot v).signer) (λ v. is_at-from (spot v) v refl)
          (recorded_of rules.eq (valid_votes rules ms)) (recorded_of rules.eq (valid_votes rules ns))
          (λ v. same_recorded (spot v))

      pub same_split_of : (round : Round) → split_of rules ms round ≡ split_of rules ns round
      same_split_of round =
          same_split rules rules ns ms round (h.splits round)
          (same_count rules.eq (valid_votes rules ns) (valid_votes rules ms) same_accused_at round) refl

      evidence_too : (es : List (Equivocation D G)) → IsEvidence rules.eq (valid_votes rules ms) es →
          IsEvidence rules.eq (valid_votes rules ns) es
      evidence_too es = moved_evidence rules.eq l (valid_votes rules ns) (valid_votes rules ms) same_evidence_at es

      splits_too : (splits : List Split) → AreSplits rules ms splits → AreSplits rules ns splits
      splits_too splits = moved_splits rules rules ns ms same_split_of splits

    -- so they are interchangeable
    pub interchangeable : (ms ns : List (Activity S D C P G)) → HaveSameState rules ms ns → AreInterchangeable rules ms ns
    interchangeable ms ns h =
        let to = λ (before more : List (Activity S D C P G)). state-among ms ns before more h in
        let from = λ (before more : List (Activity S D C P G)). state-among ns ms before more (state-sym ms ns h) in
        record {
          evidence = λ before more es.
              (evidence_too _ _ (to before more) es, evidence_too _ _ (from before more) es);
          splits = λ before more splits.
              (splits_too _ _ (to before more) splits, splits_too _ _ (from before more) splits);
          recorded = λ before more. same_recorded_count _ _ (to before more);
        }

    -- joined messages have the same state if both have
    pub state-joined : SameStateJoined rules
    state-joined ms ns more further h k =
        state-trans (ms ++ more) (ns ++ more) (ns ++ further) (state-among ms ns [] more h)
        (subst (λ ks. HaveSameState rules ks (ns ++ further)) (ap (λ ks. ns ++ ks) (append-nil more))
        (subst (λ ks. HaveSameState rules (ns ++ (more ++ [])) ks) (ap (λ ks. ns ++ ks) (append-nil further))
        (state-among more further ns [] k)))
