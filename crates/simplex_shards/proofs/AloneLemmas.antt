-- The messages of a part of the rounds, alone, have the valid votes and the splits that all messages have where nothing of
-- another round is valid.
use Rattle.std.proofs.Common.{◌≡◌, ◌+◌, ℕ, Bool, true, false, cond, List, [], ◌∷◌, ◌++◌, map, filter, Option, Some, None, ⊎_elim, refl, sym, ap, subst, ◌∙◌}
use Rattle.std.specs.Prelude.{All, IsTrue, is_some, if◌then◌else◌, ◌&&◌, ◌||◌}
use Rattle.std.specs.List.{flat_map, list_any}
use Rattle.std.proofs.lemmas.Bool.{and_parts, eqb-true, false≢true, or_cases}
use Rattle.std.proofs.lemmas.List.Elements.{All-contains, All-head, All-map, All-tail, All-weaker, filter-append, filter_passes}
use Rattle.simplex_base.specs.Positions.{Round, same_round}
use Rattle.simplex_scheme.specs.Committee.{faults_of}
use Rattle.simplex_scheme.specs.Subject.{round_of}
use Rattle.simplex_votes.specs.Votes.{SignedVote}
use Rattle.simplex_evidence.specs.Activity.{activity_round, contents_of, votes_in}
use Rattle.simplex_evidence.specs.Contents.{ContentsValue, OneCertificate, OneVote, TwoVotes, contents_certificate, contents_round}
use Rattle.simplex_evidence.specs.declared.types.activity.Activity.{Activity}
use Rattle.simplex_rules.specs.Accusation.{accused_by}
use Rattle.simplex_rules.specs.Evidence.{IsEquivocation}
use Rattle.simplex_evidence.specs.Contradiction.{Equivocation}
use Rattle.simplex_rules.specs.Certificates.{messages_contradict}
use Rattle.simplex_rules.specs.Independence.{IsOfOneRound, in_rounds, of_rounds}
use Rattle.simplex_rules.specs.Rules.{Rules, is_valid, valid_votes}
use Rattle.simplex_rules.specs.Splits.{AreSplits, accused_count, if_certified, is_certified_message, is_split, split_of}
use Rattle.simplex_rules.specs.declared.split.Split.{Split}

-- ---- lists

-- an element that passes both tests
list_any_part : {X : Type 0} (part f g : X → Bool) (xs : List X) → ((x : X) → f x ≡ (part x && g x)) →
    list_any f xs ≡ list_any g (filter part xs)
list_any_part part f g [] alike = refl
list_any_part {X} part f g (x ∷ xs) alike =
    ap (λ (b : Bool). b || list_any f xs) (alike x) ∙ go (part x) (list_any_part part f g xs alike)
  where
    go : (b : Bool) → list_any f xs ≡ list_any g (filter part xs) →
        ((b && g x) || list_any f xs) ≡ list_any g (cond b (x ∷ filter part xs) (filter part xs))
    go true rest = ap (λ (t : Bool). g x || t) rest
    go false rest = rest

any_in : {X : Type 0} (part f : X → Bool) (xs : List X) → list_any f (filter part xs) ≡ true →
    (x : X) × (part x ≡ true) × (f x ≡ true)
any_in part f [] t = absurd (false≢true t)
any_in {X} part f (x ∷ xs) t = go (part x) refl (any_in part f xs) t
  where
    go : (b : Bool) → part x ≡ b →
        (list_any f (filter part xs) ≡ true → (y : X) × (part y ≡ true) × (f y ≡ true)) →
        list_any f (cond b (x ∷ filter part xs) (filter part xs)) ≡ true → (y : X) × (part y ≡ true) × (f y ≡ true)
    go true here rest t = ⊎_elim (λ e. (x, here, e)) rest (or_cases (f x) _ t)
    go false here rest t = rest t

same_is : (a b : Round) → same_round a b ≡ true → a ≡ b
same_is a b t =
    let both = and_parts _ _ t in
    ap (λ (n : ℕ). record { epoch = n; view = a.view }) (eqb-true a.epoch b.epoch both.0)
    ∙ ap (λ (n : ℕ). record { epoch = b.epoch; view = n }) (eqb-true a.view b.view both.1)

-- what two tests leave, where the first is the same of all
filter_all_or_none : {X : Type 0} (part test : X → Bool) (here : Bool) (xs : List X) → All (λ x. part x ≡ here) xs →
    filter (λ x. part x && test x) xs ≡ cond here (filter test xs) []
filter_all_or_none part test true [] each = refl
filter_all_or_none part test false [] each = refl
filter_all_or_none part test true (x ∷ xs) each =
    ap (λ (b : Bool). cond (b && test x) (x ∷ filter (λ y. part y && test y) xs) (filter (λ y. part y && test y) xs))
    (All-head (λ y. part y ≡ true) x xs each)
    ∙ ap (λ (l : List _). cond (test x) (x ∷ l) l)
    (filter_all_or_none part test true xs (All-tail (λ y. part y ≡ true) x xs each))
filter_all_or_none part test false (x ∷ xs) each =
    ap (λ (b : Bool). cond (b && test x) (x ∷ filter (λ y. part y && test y) xs) (filter (λ y. part y && test y) xs))
    (All-head (λ y. part y ≡ false) x xs each)
    ∙ filter_all_or_none part test false xs (All-tail (λ y. part y ≡ false) x xs each)

module _ {S D C P G : Type 0} (rules : Rules S D C P G) (part : Round → Bool) where
  judged : Rules S D C P G
  judged = in_rounds part rules

  -- ---- votes

  votes_of : (m : Activity S D C P G) → IsOfOneRound rules.listed m →
      filter (is_valid (in_rounds part rules)) (votes_in rules.listed m)
      ≡ cond (part (activity_round m)) (filter (is_valid rules) (votes_in rules.listed m)) []
  votes_of m one =
      filter_all_or_none (λ v. part (round_of v.subject)) (is_valid rules) (part (activity_round m))
      (votes_in rules.listed m)
      (All-weaker (λ v. round_of v.subject ≡ activity_round m) (λ v. part (round_of v.subject) ≡ part (activity_round m))
      (λ v same. ap part same) (votes_in rules.listed m) one)

  pub votes_alike : (ms : List (Activity S D C P G)) → All (IsOfOneRound rules.listed) ms →
      valid_votes rules (of_rounds part ms) ≡ valid_votes (in_rounds part rules) ms
  votes_alike [] one = refl
  votes_alike (m ∷ ms) one =
      let votes = flat_map (votes_in rules.listed) ms in
      go (part (activity_round m)) (votes_alike ms (All-tail (IsOfOneRound rules.listed) m ms one))
      ∙ (ap (λ (l : List (SignedVote D G)). l ++ filter (is_valid (in_rounds part rules)) votes)
      (sym (votes_of m (All-head (IsOfOneRound rules.listed) m ms one)))
      ∙ sym (filter-append (is_valid (in_rounds part rules)) (votes_in rules.listed m) votes))
    where
      go : (here : Bool) → valid_votes rules (of_rounds part ms) ≡ valid_votes (in_rounds part rules) ms →
          valid_votes rules (cond here (m ∷ of_rounds part ms) (of_rounds part ms))
          ≡ cond here (filter (is_valid rules) (votes_in rules.listed m)) [] ++ valid_votes (in_rounds part rules) ms
      go true rest =
          filter-append (is_valid rules) (votes_in rules.listed m) (flat_map (votes_in rules.listed) (of_rounds part ms))
          ∙ ap (λ (l : List (SignedVote D G)). filter (is_valid rules) (votes_in rules.listed m) ++ l) rest
      go false rest = rest

  -- ---- certificates

  certified_of : (held : ContentsValue D C G) →
      is_some (if_certified (in_rounds part rules) (contents_certificate held))
      ≡ (part (contents_round held) && is_some (if_certified rules (contents_certificate held)))
  certified_of (OneVote v) = never (part (round_of v.subject))
    where
      never : (b : Bool) → false ≡ (b && false)
      never true = refl
      never false = refl
  certified_of (TwoVotes v w) = never (part (round_of v.subject))
    where
      never : (b : Bool) → false ≡ (b && false)
      never true = refl
      never false = refl
  certified_of (OneCertificate x c) = go (part (round_of x)) (rules.certified x c)
    where
      go : (here certified : Bool) → is_some (cond (here && certified) (Some x) None)
          ≡ (here && is_some (cond certified (Some x) None))
      go true certified = refl
      go false certified = refl

  certified_alike : (m : Activity S D C P G) →
      is_certified_message (in_rounds part rules) m ≡ (part (activity_round m) && is_certified_message rules m)
  certified_alike m = certified_of (contents_of m)

  -- ---- splits

  module _ (ms : List (Activity S D C P G)) where
    -- whether another certified message contradicts
    inner : (m : Activity S D C P G) →
        list_any (λ k. is_certified_message (in_rounds part rules) k && messages_contradict rules.eq m k) ms
        ≡ list_any (λ k. is_certified_message rules k && messages_contradict rules.eq m k) (of_rounds part ms)
    inner m = list_any_part (λ k. part (activity_round k)) _
        (λ k. is_certified_message rules k && messages_contradict rules.eq m k) ms (λ k.
        ap (λ (b : Bool). b && messages_contradict rules.eq m k) (certified_alike k)
        ∙ assoc (part (activity_round k)) (is_certified_message rules k) (messages_contradict rules.eq m k))
      where
        assoc : (a b c : Bool) → ((a && b) && c) ≡ (a && (b && c))
        assoc true b c = refl
        assoc false b c = refl

    pub split_alike : (round : Round) → is_split (in_rounds part rules) ms round ≡ is_split rules (of_rounds part ms) round
    split_alike round = list_any_part (λ m. part (activity_round m)) _
        (λ m. (same_round (activity_round m) round && is_certified_message rules m)
        && list_any (λ k. is_certified_message rules k && messages_contradict rules.eq m k) (of_rounds part ms)) ms (λ m.
        ap (λ (b : Bool). (same_round (activity_round m) round && b)
        && list_any (λ k. is_certified_message (in_rounds part rules) k && messages_contradict rules.eq m k) ms)
        (certified_alike m)
        ∙ (ap (λ (b : Bool). (same_round (activity_round m) round
        && (part (activity_round m) && is_certified_message rules m)) && b) (inner m)
        ∙ turn (same_round (activity_round m) round) (part (activity_round m)) (is_certified_message rules m) _))
      where
        turn : (s p c i : Bool) → ((s && (p && c)) && i) ≡ (p && ((s && c) && i))
        turn true true c i = refl
        turn true false c i = refl
        turn false true c i = refl
        turn false false c i = refl

    split_of_alike : All (IsOfOneRound rules.listed) ms → (round : Round) →
        split_of rules (of_rounds part ms) round ≡ split_of (in_rounds part rules) ms round
    split_of_alike one round =
        let split : Bool → List (SignedVote D G) → Option Split = λ b vs. if b then Some (record {
          round = round;
          named = accused_count rules.eq vs round;
          least = faults_of (rules.size round.epoch) + 1;
        }) else None in
        ap (λ (b : Bool). split b (valid_votes rules (of_rounds part ms))) (sym (split_alike round))
        ∙ ap (split (is_split (in_rounds part rules) ms round)) (votes_alike ms one)

    pub splits_alike : All (IsOfOneRound rules.listed) ms → (splits : List Split) →
        AreSplits rules (of_rounds part ms) splits → AreSplits (in_rounds part rules) ms splits
    splits_alike one splits are = record {
      ordered = are.ordered;
      sound = All-weaker (λ s. split_of rules (of_rounds part ms) s.round ≡ Some s)
          (λ s. split_of (in_rounds part rules) ms s.round ≡ Some s)
          (λ s is. sym (split_of_alike one s.round) ∙ is) splits are.sound;
      complete = λ round t. are.complete round (subst IsTrue (split_alike round) t);
    }

    -- a round of the part alone is split
    pub split_round : (round : Round) → is_split (in_rounds part rules) ms round ≡ true → part round ≡ true
    split_round round t =
        let found = any_in (λ m. part (activity_round m)) _ ms (sym (split_alike round) ∙ t) in
        let first = and_parts _ _ (and_parts _ _ found.2).0 in
        ap part (sym (same_is (activity_round found.0) round first.0)) ∙ found.1

  -- evidence accuses in the part alone
  pub accused_within : (ms : List (Activity S D C P G)) (es : List (Equivocation D G)) →
      All (IsEquivocation rules.eq (valid_votes (in_rounds part rules) ms)) es →
      All (λ n. part n.round ≡ true) (map accused_by es)
  accused_within ms es sound =
      All-map (λ n. part n.round ≡ true) accused_by es
      (All-weaker (IsEquivocation rules.eq (valid_votes (in_rounds part rules) ms)) (λ e. part (accused_by e).round ≡ true)
      (λ e is. (and_parts (part (round_of e.first.subject)) (is_valid rules e.first)
      (All-contains (λ v. is_valid (in_rounds part rules) v ≡ true) (valid_votes (in_rounds part rules) ms) e.first
      (filter_passes (is_valid (in_rounds part rules)) (flat_map (votes_in rules.listed) ms)) is.first_cast)).0) es sound)
