-- How many messages of a round are kept: at most five without a certificate for each participant, and three with one.
use Rattle.simplex_rules.proofs.Prelude.{Activity, All, All-contains, Bool, Contains, Finalizes, HaveCommittees, IsEquivalence, List, None, Nullifies, Option, Round, Rules, SignedVote, Some, VoteKind, SubjectValue, [], activity_round, and-false, and-true, and_parts, and_right, ap, append-nil, append_assoc, are_split, arith, certified_in, certified_subjects, cond, cond-false, eqb, eqb-false, excludes, excludes_some, false, false≢true, filter, filter-append, first_certified, flat_map, is_none, is_valid, length, length-append, length-filter_both, map, news_after, not, not-true, option_or, option_to_list, recorded_of, refl, round_of, same_round, same_kind, kind_of, subst, suc, sym, true, valid_votes, votes_in, zero, ℕ, ◌&&◌, ◌++◌, ◌+◌, ◌<◌, ◌||◌, ◌∙◌, ◌∷◌, ◌≡◌, ◌≤◌}
use Rattle.std.proofs.lemmas.List.Elements.{All-head, All-tail}
use Rattle.std.specs.Prelude.{◌*◌}
use Rattle.simplex_scheme.specs.declared.kind.VoteKind.TheVariants as kinds
use Rattle.simplex_rules.specs.Independence.{IsOfOneRound}
use Rattle.simplex_rules.specs.News.{FewAreKept, certifies_news, have_news, if_news, kept_of, messages_kept, subject_is_news, valid_votes_in, vote_message, votes_alone}
use Rattle.simplex_evidence.specs.Activity.{has_certificate}
use Rattle.simplex_evidence.specs.declared.types.activity.Activity.TheVariants as activity
use Rattle.simplex_rules.proofs.EvidenceLemmas.{valid_votes-push}
use Rattle.simplex_rules.proofs.Filters.{filter_both, filter_swap}
use Rattle.simplex_rules.proofs.Lists.{Contains-filter, Contains-first, Contains-from_filter, found}
use Rattle.simplex_laws.proofs.NewsLemmas.{alone_round, attested, is_alone, news_from, news_here, one_is_news, split_now}
use Rattle.simplex_rules.proofs.RecordedLemmas.{news_after-append, few_are_recorded}
use Rattle.simplex_rules.proofs.Places.{same_round-true, same_kind-true}
use Rattle.simplex_rules.proofs.SplitLemmas.{certified_round, first_after, split_by, subjects_push}

-- ---- counting by keys

-- elements with keys below n, at most five of each key, are at most 5 n
few_by_key : {X : Type 0} (key : X → ℕ) (n : ℕ) (xs : List X) →
    ((i : ℕ) → length (filter (λ x. eqb (key x) i) xs) ≤ 5) → ((x : X) → Contains xs x → key x < n) → length xs ≤ 5 * n
few_by_key key zero [] few below = omega arith
few_by_key key zero (x ∷ xs) few below = absurd (omega (arith, below x (Contains-first x xs)))
few_by_key {X} key (suc n) xs few below =
    let other : X → Bool = λ x. not (eqb (key x) n) in
    let fewer : (i : ℕ) → length (filter (λ x. eqb (key x) i) (filter other xs)) ≤ 5 = λ i.
    let at : X → Bool = λ x. eqb (key x) i in
    omega (
      arith,
      few i,
      ap length (filter_swap at other xs),
      length-filter_both other (λ x. not (other x)) (λ x. refl) (filter at xs),
    ) in
    let rest = few_by_key key n (filter other xs) fewer (λ x x_in.
    let (x_in_xs, differs) = Contains-from_filter other xs x x_in in less (key x) (below x x_in_xs) differs) in
    omega (arith, few n, rest, length-filter_both (λ x. eqb (key x) n) other (λ x. refl) xs)
  where
    less : (k : ℕ) → k < suc n → not (eqb k n) ≡ true → k < n
    less k lt differs = omega (arith, lt, eqb-false k n (not-true (eqb k n) differs))

-- ---- votes that are news

module _ {D G : Type 0} (eq : D → D → Bool) where
  -- whether a vote is of a round
  abbrev in_round : Round → SignedVote D G → Bool
  in_round round v = same_round (round_of v.subject) round

  -- if one of some votes of a round is news, there is news of that round
  some_news : (l : IsEquivalence eq) (round : Round) (before vs : List (SignedVote D G)) →
      ((v : SignedVote D G) → Contains vs v → in_round round v ≡ true) → have_news eq before vs ≡ true →
      1 ≤ length (filter (in_round round) (news_after eq before vs))
  some_news l round before vs here h =
      let (v, v_in) = one_is_news eq l before vs h in
      let v_here = here v (news_from eq before vs v v_in) in
      omega (arith, (Contains-filter (in_round round) (news_after eq before vs) v v_in v_here).1)

-- ---- certified subjects that are news

-- how many of an option there are
abbrev one : {X : Type 0} → Option X → ℕ
one o = length (option_to_list o)

one_at_most : {X : Type 0} (o : Option X) → one o ≤ 1
one_at_most None = omega arith
one_at_most (Some x) = omega arith

-- how many kinds have a first subject
abbrev filled : {X : Type 0} → (VoteKind → Option X) → ℕ
filled first = one (first kinds.Notarize) + (one (first kinds.Nullify) + one (first kinds.Finalize))

-- the first of a kind, with one more of kind s
abbrev with_one : {X : Type 0} → VoteKind → X → (VoteKind → Option X) → VoteKind → Option X
with_one s y first kind = cond (same_kind s kind) (option_or (first kind) (Some y)) (first kind)

filled_more : {X : Type 0} (s : VoteKind) (y : X) (first : VoteKind → Option X) →
    filled first + cond (is_none (first s) || false) 1 0 ≤ filled (with_one s y first)
filled_more {X} s y first = by s
  where
    more : (o : Option X) → one o + cond (is_none o || false) 1 0 ≤ one (option_or o (Some y))
    more None = omega arith
    more (Some x) = omega arith

    by : (s : VoteKind) → filled first + cond (is_none (first s) || false) 1 0 ≤ filled (with_one s y first)
    by kinds.Notarize = omega (arith, more (first kinds.Notarize))
    by kinds.Nullify = omega (arith, more (first kinds.Nullify))
    by kinds.Finalize = omega (arith, more (first kinds.Finalize))

-- a, b and e: whether the round is split, whether a subject is of it, and whether the subject excludes the first of some kind
count_step : {X : Type 0} (a b e : Bool) (s : VoteKind) (y : X) (first : VoteKind → Option X) → (a ≡ false → filled first ≤ 2) →
    cond a 3 (filled first) + cond (b && (not a && (is_none (first s) || e))) 1 0
    ≤ cond (a || (b && e)) 3 (filled (λ kind. cond b (with_one s y first kind) (first kind)))
count_step true true e s y first two = omega arith
count_step true false e s y first two = omega arith
count_step false false e s y first two = omega arith
count_step false true true s y first two =
    elim (is_none (first s)) as (λ n. filled first + cond (n || true) 1 0 ≤ 3)
    [ true ↦ omega (arith, two refl) | false ↦ omega (arith, two refl) ]
count_step false true false s y first two = filled_more s y first

module _ {D : Type 0} (eq : D → D → Bool) (l : IsEquivalence eq) (round : Round) where
  -- three if the round is split, else the number of kinds that have a first subject
  abbrev weight : List (SubjectValue D) → ℕ
  weight xs = cond (are_split eq xs round) 3 (filled (first_certified xs round))

  -- a nullified and a finalized round is split
  at_most_two : (xs : List (SubjectValue D)) → are_split eq xs round ≡ false → filled (first_certified xs round) ≤ 2
  at_most_two xs whole = by (first_certified xs round kinds.Nullify) (first_certified xs round kinds.Finalize) refl refl
    where
      excluded : (x y : SubjectValue D) → kind_of x ≡ kinds.Nullify → kind_of y ≡ kinds.Finalize → excludes eq x y ≡ true
      excluded (Nullifies r) (Finalizes p) s t = refl
      excluded _ _ s t = absurd cc

      by : (n f : Option (SubjectValue D)) → first_certified xs round kinds.Nullify ≡ n →
          first_certified xs round kinds.Finalize ≡ f →
          one (first_certified xs round kinds.Notarize) + (one n + one f) ≤ 2
      by None f is too = omega (arith, one_at_most (first_certified xs round kinds.Notarize), one_at_most f)
      by (Some x) None is too = omega (arith, one_at_most (first_certified xs round kinds.Notarize))
      by (Some x) (Some y) is too =
          let (x_in, x_at) = found _ xs x is in
          let (y_in, y_at) = found _ xs y too in
          let p = and_parts (same_kind (kind_of x) kinds.Nullify) (same_round (round_of x) round) x_at in
          let q = and_parts (same_kind (kind_of y) kinds.Finalize) (same_round (round_of y) round) y_at in
          absurd (false≢true (sym whole ∙ split_by eq xs round (record {
            x = x;
            y = y;
            x_in = x_in;
            y_in = y_in;
            x_here = same_round-true _ _ p.1;
            y_here = same_round-true _ _ q.1;
            against = excluded x y (same_kind-true _ _ p.0) (same_kind-true _ _ q.0);
          })))

  weight_at_most : (xs : List (SubjectValue D)) → weight xs ≤ 3
  weight_at_most xs =
      let first = first_certified xs round in
      elim (are_split eq xs round) as (λ b. cond b 3 (filled first) ≤ 3) [
        | true ↦ omega arith
        | false ↦ omega (
          arith,
          one_at_most (first kinds.Notarize),
          one_at_most (first kinds.Nullify),
          one_at_most (first kinds.Finalize),
        )
      ]

  -- a subject of the round that is news adds to the weight, and no subject takes from it
  weight_step : (xs : List (SubjectValue D)) (y : SubjectValue D) →
      weight xs + cond (same_round (round_of y) round && subject_is_news eq xs (Some y)) 1 0 ≤ weight (xs ++ y ∷ [])
  weight_step xs y =
      let first = first_certified xs round in
      let a = are_split eq xs round in
      let e = excludes_some eq first y in
      let here = same_round (round_of y) round in
      let news : (here && subject_is_news eq xs (Some y)) ≡ (here && (not a && (is_none (first (kind_of y)) || e))) =
      (elim here as (λ b. here ≡ b →
      (b && subject_is_news eq xs (Some y)) ≡ (b && (not a && (is_none (first (kind_of y)) || e))))
      [ true ↦ λ is. news_here eq l xs y round is | false ↦ λ is. refl ]) refl in
      let after : weight (xs ++ y ∷ [])
      ≡ cond (a || (here && e)) 3 (filled (λ kind. cond here (with_one (kind_of y) y first kind) (first kind))) =
      λ i. cond (split_now eq l xs y round i) 3 (filled (λ kind. first_after xs y round kind i)) in
      omega (arith, ap {B = ℕ} (λ b. cond b 1 0) news, after, count_step a here e (kind_of y) y first (at_most_two xs))

  -- so with what a message certifies, if anything
  weight_with : (xs : List (SubjectValue D)) (q : Round) (o : Option (SubjectValue D)) →
      ((x : SubjectValue D) → o ≡ Some x → q ≡ round_of x) →
      weight xs + cond (same_round q round && subject_is_news eq xs o) 1 0 ≤ weight (xs ++ option_to_list o)
  weight_with xs q None own =
      omega (arith, ap weight (append-nil xs), ap {B = ℕ} (λ b. cond b 1 0) (and-false (same_round q round)))
  weight_with xs q (Some y) own =
      omega (
        arith,
        weight_step xs y,
        ap {B = ℕ} (λ r. cond (same_round r round && subject_is_news eq xs (Some y)) 1 0) (own y refl),
      )

-- ---- messages that are news

module _ {S D C P G : Type 0} (rules : Rules S D C P G) (l : IsEquivalence rules.eq) (round : Round) where
  -- whether a message is of the round
  abbrev is_here : Activity S D C P G → Bool
  is_here m = same_round (activity_round m) round

  -- the certified subjects' weight
  abbrev heft : List (Activity S D C P G) → ℕ
  heft ms = weight rules.eq l round (certified_subjects rules ms)

  -- how many votes of the round are news
  abbrev news_votes : List (SignedVote D G) → List (SignedVote D G) → ℕ
  news_votes before vs = length (filter (in_round rules.eq round) (news_after rules.eq before vs))

  -- whether a message is of the round and has a certificate
  abbrev is_certificate : Activity S D C P G → Bool
  is_certificate m = is_here m && has_certificate m

  -- whether it is of the round and has none
  abbrev is_plain : Activity S D C P G → Bool
  is_plain m = is_here m && not (has_certificate m)

  -- votes as messages of their own have no certificate
  no_certificates : (vs : List (SignedVote D G)) → filter is_certificate (map vote_message vs) ≡ []
  no_certificates [] = refl
  no_certificates (v ∷ vs) =
      cond-false (is_certificate (vote_message v)) (vote_message v ∷ filter is_certificate (map vote_message vs))
      (filter is_certificate (map vote_message vs))
      (and_right (is_here (vote_message v)) _ (is_alone rules v.subject (attested rules v))) ∙ no_certificates vs

  -- those of the round are as many as the votes of the round
  as_many : (vs : List (SignedVote D G)) →
      length (filter is_plain (map vote_message vs)) ≡ length (filter (in_round rules.eq round) vs)
  as_many [] = refl
  as_many (v ∷ vs) =
      let here : is_plain (vote_message v) ≡ in_round rules.eq round v =
      (λ i. same_round (alone_round rules v.subject (attested rules v) i) round
      && not (is_alone rules v.subject (attested rules v) i)) ∙ and-true (in_round rules.eq round v) in
      ap (λ b. length (cond b (vote_message v ∷ filter is_plain (map vote_message vs)) (filter is_plain (map vote_message vs))))
      here
      ∙ (elim (in_round rules.eq round v) as (λ b.
      length (cond b (vote_message v ∷ filter is_plain (map vote_message vs)) (filter is_plain (map vote_message vs)))
      ≡ length (cond b (v ∷ filter (in_round rules.eq round) vs) (filter (in_round rules.eq round) vs)))
      [ true ↦ ap suc (as_many vs) | false ↦ as_many vs ])

  -- a message without a certificate certifies no news
  none_certifies : (before : List (Activity S D C P G)) (m : Activity S D C P G) → has_certificate m ≡ false →
      certifies_news rules before m ≡ false
  none_certifies before (activity.Notarize v) none = refl
  none_certifies before (activity.Nullify v) none = refl
  none_certifies before (activity.Finalize v) none = refl
  none_certifies before (activity.ConflictingNotarize c) none = refl
  none_certifies before (activity.ConflictingFinalize c) none = refl
  none_certifies before (activity.NullifyFinalize c) none = refl
  none_certifies before _ none = absurd (false≢true (sym none))

  module _ (before : List (Activity S D C P G)) (m : Activity S D C P G) (whole : IsOfOneRound rules.listed m) where
    abbrev votes_are_news : Bool
    votes_are_news = have_news rules.eq (valid_votes rules before) (valid_votes_in rules m)

    of_its_round : is_here m ≡ true → (v : SignedVote D G) → Contains (valid_votes_in rules m) v →
        in_round rules.eq round v ≡ true
    of_its_round at v v_in =
        let own = All-contains (λ (w : SignedVote D G). round_of w.subject ≡ activity_round m) (votes_in rules.listed m) v whole
        (Contains-from_filter (is_valid rules) (votes_in rules.listed m) v v_in).0 in
        ap (λ r. same_round r round) own ∙ at

    votes_count : cond (is_here m && votes_are_news) 1 0 ≤ news_votes (valid_votes rules before) (valid_votes_in rules m)
    votes_count =
        let count = news_votes (valid_votes rules before) (valid_votes_in rules m) in
        (elim (is_here m) as (λ a. is_here m ≡ a → cond (a && votes_are_news) 1 0 ≤ count) [
          | true ↦ λ at. (elim votes_are_news as (λ b. votes_are_news ≡ b → cond b 1 0 ≤ count) [
            | true ↦ λ h.
                some_news rules.eq l round (valid_votes rules before) (valid_votes_in rules m) (of_its_round at) h
            | false ↦ λ h. omega arith
          ]) refl
          | false ↦ λ away. omega arith
        ]) refl

    -- a certificate is kept only if its subject is news, and adds to the weight then
    one_certificate : length (filter is_certificate (kept_of rules before m)) + heft before ≤ heft (before ++ m ∷ [])
    one_certificate =
        let a = is_here m in
        let news = certifies_news rules before m in
        let kept : length (filter is_certificate (kept_of rules before m)) ≤ cond (a && news) 1 0 =
        (elim (has_certificate m) as (λ h. has_certificate m ≡ h → length (filter is_certificate
        (cond (h && not news) (votes_alone rules before m) (if_news rules before m))) ≤ cond (a && news) 1 0) [
          | true ↦ λ has. elim news as (λ n. length (filter is_certificate (cond (not n) (votes_alone rules before m)
              (cond (votes_are_news || n) (m ∷ []) []))) ≤ cond (a && n) 1 0) [
                | true ↦ none_or_one votes_are_news
                | false ↦ omega (
                  arith,
                  ap length (no_certificates (news_after rules.eq (valid_votes rules before)
                      (valid_votes_in rules m))),
                )
              ]
          | false ↦ λ has. elim (votes_are_news || news) as (λ n. length (filter is_certificate (cond n (m ∷ []) []))
              ≤ cond (a && news) 1 0) [
                | true ↦
                    let none = and_right a (has_certificate m) has in
                    omega (arith, ap length (cond-false (is_certificate m) (m ∷ []) [] none))
                | false ↦ omega arith
              ]
        ]) refl in
        omega (
          arith,
          kept,
          weight_with rules.eq l round (certified_subjects rules before) (activity_round m) (certified_in rules m)
              (λ x is. certified_round rules m x is),
          ap (weight rules.eq l round) (subjects_push rules before m),
        )
      where
        at_most : (b : Bool) → length (cond b (m ∷ []) []) ≤ 1
        at_most true = omega arith
        at_most false = omega arith

        by_round : length (filter is_certificate (m ∷ [])) ≤ cond (is_here m && true) 1 0
        by_round =
            elim (is_here m) as (λ b. length (cond (b && has_certificate m) (m ∷ []) []) ≤ cond (b && true) 1 0)
            [ true ↦ at_most (has_certificate m) | false ↦ omega arith ]

        none_or_one : (votes : Bool) →
            length (filter is_certificate (cond (votes || true) (m ∷ []) [])) ≤ cond (is_here m && true) 1 0
        none_or_one true = by_round
        none_or_one false = by_round

    -- a message without a certificate is kept only for a vote that is news
    one_plain : length (filter is_plain (kept_of rules before m))
        ≤ news_votes (valid_votes rules before) (valid_votes_in rules m)
    one_plain =
        let a = is_here m in
        let news = certifies_news rules before m in
        let count = news_votes (valid_votes rules before) (valid_votes_in rules m) in
        (elim (has_certificate m) as (λ h. has_certificate m ≡ h → length (filter is_plain
        (cond (h && not news) (votes_alone rules before m) (if_news rules before m))) ≤ count) [
          | true ↦ λ has.
              let none : filter is_plain (m ∷ []) ≡ [] =
              cond-false (is_plain m) (m ∷ []) [] (and_right a (not (has_certificate m)) (ap not has)) in
              elim (not news) as (λ n. length (filter is_plain (cond n (votes_alone rules before m) (if_news rules before m)))
              ≤ count) [
                | true ↦ omega (arith, as_many (news_after rules.eq (valid_votes rules before) (valid_votes_in rules m)))
                | false ↦ elim (votes_are_news || news) as (λ n. length (filter is_plain (cond n (m ∷ []) [])) ≤ count)
                    [ true ↦ omega (arith, ap length none) | false ↦ omega arith ]
              ]
          | false ↦ λ has. plain_counts votes_are_news news (none_certifies before m has) votes_count
        ]) refl
      where
        plain_counts : (votes subject : Bool) → subject ≡ false →
            cond (is_here m && votes) 1 0 ≤ news_votes (valid_votes rules before) (valid_votes_in rules m) →
            length (filter is_plain (cond (votes || subject) (m ∷ []) []))
            ≤ news_votes (valid_votes rules before) (valid_votes_in rules m)
        plain_counts true subject none count = omega (arith, count, here_or_not (is_here m) (not (has_certificate m)))
          where
            here_or_not : (a b : Bool) → length (cond (a && b) (m ∷ []) []) ≤ cond (a && true) 1 0
            here_or_not true true = omega arith
            here_or_not true false = omega arith
            here_or_not false b = omega arith
        plain_counts false true none count = absurd (false≢true (sym none))
        plain_counts false false none count = omega arith

    -- the news votes of a message and of those behind it
    votes_add_up : (ms : List (Activity S D C P G)) → news_votes (valid_votes rules before) (valid_votes rules (m ∷ ms))
        ≡ news_votes (valid_votes rules before) (valid_votes_in rules m)
        + news_votes (valid_votes rules (before ++ m ∷ [])) (valid_votes rules ms)
    votes_add_up ms =
        let here = in_round rules.eq round in
        let vs = valid_votes_in rules m in
        let ws = valid_votes rules ms in
        let first = news_after rules.eq (valid_votes rules before) vs in
        ap (news_votes (valid_votes rules before)) (filter-append (is_valid rules) (votes_in rules.listed m) (flat_map
        (votes_in rules.listed) ms))
        ∙ ap (λ us. length (filter here us)) (news_after-append rules.eq (valid_votes rules before) vs ws)
        ∙ ap (λ us. length (filter here (first ++ news_after rules.eq us ws))) (sym (valid_votes-push rules before m))
        ∙ ap length (filter-append here first (news_after rules.eq (valid_votes rules (before ++ m ∷ [])) ws))
        ∙ length-append (filter here first) (filter here (news_after rules.eq (valid_votes rules (before ++ m ∷ [])) ws))

  certificates_counted : (ms before : List (Activity S D C P G)) →
      All (IsOfOneRound rules.listed) ms →
      length (filter is_certificate (messages_kept rules before ms)) + heft before ≤ heft (before ++ ms)
  certificates_counted [] before whole = omega (arith, ap heft (append-nil before))
  certificates_counted (m ∷ ms) before whole =
      let kept = kept_of rules before m in
      let more = messages_kept rules (before ++ m ∷ []) ms in
      omega (
        arith,
        one_certificate before m (All-head (IsOfOneRound rules.listed) m ms whole),
        certificates_counted ms (before ++ m ∷ []) (All-tail (IsOfOneRound rules.listed) m ms whole),
        ap length (filter-append is_certificate kept more),
        length-append (filter is_certificate kept) (filter is_certificate more),
        ap heft (append_assoc before (m ∷ []) ms),
      )

  plain_counted : (ms before : List (Activity S D C P G)) → All (IsOfOneRound rules.listed) ms →
      length (filter is_plain (messages_kept rules before ms))
      ≤ news_votes (valid_votes rules before) (valid_votes rules ms)
  plain_counted [] before whole = omega arith
  plain_counted (m ∷ ms) before whole =
      let own = All-head (IsOfOneRound rules.listed) m ms whole in
      let kept = kept_of rules before m in
      let more = messages_kept rules (before ++ m ∷ []) ms in
      omega (
        arith,
        one_plain before m own,
        plain_counted ms (before ++ m ∷ []) (All-tail (IsOfOneRound rules.listed) m ms whole),
        ap length (filter-append is_plain kept more),
        length-append (filter is_plain kept) (filter is_plain more),
        votes_add_up before m own ms,
      )

  -- the recorded votes of the round are at most five for each participant
  pub few_votes : HaveCommittees rules → (messages : List (Activity S D C P G)) →
      news_votes [] (valid_votes rules messages) ≤ 5 * rules.size round.epoch
  few_votes committees messages =
      let vs = valid_votes rules messages in
      let recorded = recorded_of rules.eq vs in
      let here = in_round rules.eq round in
      few_by_key (λ v. v.signer) (rules.size round.epoch) (filter here recorded)
      (λ i. let at : SignedVote D G → Bool = λ v. eqb v.signer i in
      omega (
        arith,
        few_are_recorded rules.eq l vs round i,
        ap length (filter_both at here recorded ∙ filter_swap here at recorded),
      ))
      (λ v v_in. let (v_recorded, v_here) = Contains-from_filter here recorded v v_in in
      let (v_cast, v_valid) = Contains-from_filter (is_valid rules) (flat_map (votes_in rules.listed) messages) v
      (news_from rules.eq [] vs v v_recorded) in
      subst (λ (r : Round). v.signer < rules.size r.epoch) (same_round-true (round_of v.subject) round v_here)
      (committees.members v.subject v.signer v.signature v_valid))

pub few_are_kept : {S D C P G : Type 0} (rules : Rules S D C P G) → IsEquivalence rules.eq → HaveCommittees rules →
    (messages : List (Activity S D C P G)) → All (IsOfOneRound rules.listed) messages → FewAreKept rules messages
few_are_kept rules l committees messages whole = record {
  votes = λ round. omega (
    arith,
    plain_counted rules l round messages [] whole,
    few_votes rules l round committees messages,
  );
  certificates = λ round. omega (
    arith,
    certificates_counted rules l round messages [] whole,
    weight_at_most rules.eq l round (certified_subjects rules messages),
  );
}
