-- How many votes a monitor records, whatever was sent.
use Rattle.std.proofs.Common.{◌≡◌, ℕ, ◌*◌, ◌<◌, ◌≤◌, ◌⊎◌, Bool, true, false, List, [], ◌∷◌, ◌++◌, Option, Some, None, cond, inl, inr, refl, sym, ap, subst, ◌∙◌, arith, append_assoc, append-nil}
use Rattle.std.proofs.lemmas.Bool.{and_parts, false≢true}
use Rattle.std.proofs.lemmas.List.Elements.{All-contains, Contains-append_cases, Contains-append_right}
use Rattle.std.proofs.lemmas.Option.{same_Some}
use Rattle.std.specs.List.{flat_map}
use Rattle.std.specs.Option.{is_some}
use Rattle.std.specs.Prelude.{Contains}
use Rattle.simplex_base.specs.Format.{Format}
use Rattle.simplex_base.specs.Positions.{Round}
use Rattle.simplex_scheme.specs.Subject.{SubjectValue, round_of}
use Rattle.simplex_votes.specs.Votes.{SignedVote}
use Rattle.simplex_evidence.specs.Activity.{IsActivity, activity_round, contents_of, votes_in}
use Rattle.simplex_evidence.specs.Contents.{AreInConflict, ContentsValue, OneCertificate, OneVote, TwoVotes, contents_certificate, contents_round}
use Rattle.simplex_evidence.specs.Contradiction.{Conflicting_finalize, Conflicting_notarize, Nullify_finalize}
use Rattle.simplex_evidence.specs.declared.types.activity.Activity.{Activity}
use Rattle.simplex_evidence.specs.declared.types.activity.Activity.TheVariants as activity
use Rattle.simplex_rules.specs.Independence.{IsOfOneRound, in_rounds, is_from}
use Rattle.simplex_rules.specs.Recorded.{is_news, news_after, recorded_in, recorded_of, votes_recorded}
use Rattle.simplex_rules.specs.Rules.{Rules, is_valid, valid_votes}
use Rattle.simplex_rules.specs.Splits.{certified_in, if_certified}
use Rattle.simplex_monitor.specs.Bounded.{IsNearby, views_of}
use Rattle.simplex_monitor.specs.Taken.{AreTaken, Takes, certified_rounds, finalized_rounds, window_of}
use Rattle.simplex_monitor.specs.Window.{IsInOrder, floor_of, window_after}
use Rattle.simplex_monitor.specs.declared.window.Window.{Window}
use Rattle.simplex_monitor.proofs.BoundedLemmas.{covered, nearby_in, passes, rounds_count, rounds_list}
use Rattle.simplex_monitor.proofs.NearbyLemmas.{certified_nearby, stays_nearby, voted_nearby}
use Rattle.simplex_monitor.proofs.RoundOrder.{Contains-cons_cases, Contains-from_filter, Contains-none}
use Rattle.simplex_monitor.proofs.TakenLemmas.{moved, unmoved}

-- the votes of evidence that can be encoded contradict
pub in_conflict : {S D C P G : Type 0} (eq : D → D → Bool) (payload : Format D) (is_certificate : C → Type 0)
    (signature : Format G) (m : Activity S D C P G) → IsActivity eq payload is_certificate signature m →
    AreInConflict eq (contents_of m)
in_conflict eq payload is_certificate signature (activity.ConflictingNotarize c) is = (Conflicting_notarize, is.1)
in_conflict eq payload is_certificate signature (activity.ConflictingFinalize c) is = (Conflicting_finalize, is.1)
in_conflict eq payload is_certificate signature (activity.NullifyFinalize c) is = (Nullify_finalize, is.1)
in_conflict eq payload is_certificate signature _ is = tt

-- recorded votes are among the votes
among_votes : {D G : Type 0} (eq : D → D → Bool) (before vs : List (SignedVote D G)) (v : SignedVote D G) →
    Contains (news_after eq before vs) v → Contains vs v
among_votes eq before [] v h = absurd (Contains-none v h)
among_votes {D} {G} eq before (w ∷ vs) v h = go (among_votes eq (before ++ w ∷ []) vs v) (is_news eq before w) h
  where
    go : (Contains (news_after eq (before ++ w ∷ []) vs) v → Contains vs v) → (b : Bool) →
        Contains (cond b (w ∷ []) [] ++ news_after eq (before ++ w ∷ []) vs) v → Contains (w ∷ vs) v
    go later true here = elim (Contains-cons_cases w (news_after eq (before ++ w ∷ []) vs) v here)
        as (λ _. Contains (w ∷ vs) v) [
          | inl same ↦ subst (λ x. Contains (w ∷ vs) x) same (0, omega arith, refl)
          | inr rest ↦ Contains-append_right (w ∷ []) vs v (later rest)
        ]
    go later false here = Contains-append_right (w ∷ []) vs v (later here)

-- an element of joined lists is in one of them
pub from_joined : {X Y : Type 0} (f : X → List Y) (xs : List X) (y : Y) → Contains (flat_map f xs) y →
    (x : X) × Contains xs x × Contains (f x) y
from_joined f [] y h = absurd (Contains-none y h)
from_joined {X} {Y} f (x ∷ xs) y h = elim (Contains-append_cases (f x) (flat_map f xs) y h)
    as (λ _. (z : X) × Contains (x ∷ xs) z × Contains (f z) y) [
      | inl here ↦ (x, (0, omega arith, refl), here)
      | inr later ↦ let (z, z_in, y_in) = from_joined f xs y later in (z, Contains-append_right (x ∷ []) xs z z_in, y_in)
    ]

module _ {S D C P G : Type 0} (rules : Rules S D C P G) where
  -- what a message certifies is of its round
  subject_round : (m : Activity S D C P G) (x : SubjectValue D) → certified_in rules m ≡ Some x → round_of x ≡ activity_round m
  subject_round m x = go (contents_of m)
    where
      one : (y : SubjectValue D) (b : Bool) → cond b (Some y) None ≡ Some x → round_of x ≡ round_of y
      one y true e = ap round_of (sym (same_Some y x e))
      one y false e = absurd cc

      go : (held : ContentsValue D C G) → if_certified rules (contents_certificate held) ≡ Some x →
          round_of x ≡ contents_round held
      go (OneVote v) e = absurd cc
      go (TwoVotes v w) e = absurd cc
      go (OneCertificate y c) e = one y (rules.certified y c) e

  -- what was taken are messages of the stream
  pub taken_among : (start : Window) (before ms taken : List (Activity S D C P G)) (b a : ℕ) →
      AreTaken rules start before ms taken b a → (m : Activity S D C P G) → Contains taken m → Contains ms m
  taken_among start before [] taken b a (none, low, high) m h =
      absurd (Contains-none m (subst (λ (ts : List (Activity S D C P G)). Contains ts m) none h))
  taken_among start before (k ∷ ms) taken b a (inl (takes, rest, is, more)) m h =
      elim (Contains-cons_cases k rest m (subst (λ (ts : List (Activity S D C P G)). Contains ts m) is h))
      as (λ _. Contains (k ∷ ms) m) [
        | inl same ↦ subst (λ x. Contains (k ∷ ms) x) same (0, omega arith, refl)
        | inr later ↦ Contains-append_right (k ∷ []) ms m (taken_among start (before ++ k ∷ []) ms rest b a more m later)
      ]
  taken_among start before (k ∷ ms) taken b a (inr (inl (out, n, is, more))) m h =
      Contains-append_right (k ∷ []) ms m (taken_among start before ms taken n a more m h)
  taken_among start before (k ∷ ms) taken b a (inr (inr (low, out, n, is, more))) m h =
      Contains-append_right (k ∷ []) ms m (taken_among start before ms taken b n more m h)

  module _ (start : Window) (ordered : IsInOrder start) (terms : 1 ≤ start.lookahead.term_length) where
    -- a message's round is one that the window looks at, after the messages that it took
    abbrev AreNearby : List (Activity S D C P G) → Type 0
    AreNearby before = (m : Activity S D C P G) → Contains before m →
        (0 < (activity_round m).view) × IsNearby (window_of rules start before) (activity_round m)

    -- one message more
    one_nearby : (before : List (Activity S D C P G)) (k : Activity S D C P G) → AreNearby before →
        Takes rules (window_of rules start before) k → AreNearby (before ++ k ∷ [])
    one_nearby before k each takes m h = go (certified_in rules k) refl (Contains-append_cases before (k ∷ []) m h)
      where
        next : List (Activity S D C P G)
        next = before ++ k ∷ []

        Goal : Activity S D C P G → Type 0
        Goal x = (0 < (activity_round x).view) × IsNearby (window_of rules start next) (activity_round x)

        positive : 0 < (activity_round k).view
        positive = elim takes as (λ _. 0 < (activity_round k).view) [ inl voted ↦ voted.0.0 | inr adm ↦ adm.0.0 ]

        last : (z : Activity S D C P G) → Contains (k ∷ []) z → k ≡ z
        last z here = elim (Contains-cons_cases k [] z here) as (λ _. k ≡ z)
            [ inl same ↦ same | inr none ↦ absurd (Contains-none z none) ]

        go : (o : Option (SubjectValue D)) → certified_in rules k ≡ o → Contains before m ⊎ Contains (k ∷ []) m →
            (0 < (activity_round m).view) × IsNearby (window_of rules start (before ++ k ∷ [])) (activity_round m)
        go None e (inl old) =
            let (some, near) = each m old in (
              some,
              subst (λ (w : Window). IsNearby w (activity_round m))
                  (sym (unmoved rules start before k (ap (λ o. is_some o) e))) near,
            )
        go None e (inr own) =
            subst (λ (x : Activity S D C P G). (0 < (activity_round x).view)
            × IsNearby (window_of rules start (before ++ k ∷ [])) (activity_round x)) (last m own) (
              positive,
              subst (λ (w : Window). IsNearby w (activity_round k))
                  (sym (unmoved rules start before k (ap (λ o. is_some o) e)))
                  (elim takes as (λ _. IsNearby (window_of rules start before) (activity_round k)) [
                    | inl voted ↦ voted_nearby (window_of rules start before) (activity_round k) voted
                    | inr adm ↦ absurd (false≢true (sym (ap (λ o. is_some o) e) ∙ adm.1))
                  ]),
            )
        go (Some x) e (inl old) =
            let (some, near) = each m old in (
              some,
              subst (λ (w : Window). IsNearby w (activity_round m)) (sym (moved rules start before k x e))
                  (stays_nearby start (certified_rounds rules before) (finalized_rounds rules before) (round_of x) ordered terms
                  (activity_round m) near),
            )
        go (Some x) e (inr own) =
            subst (λ (y : Activity S D C P G). (0 < (activity_round y).view)
            × IsNearby (window_of rules start (before ++ k ∷ [])) (activity_round y)) (last m own) (
              positive,
              subst (λ (w : Window). IsNearby w (activity_round k)) (sym (moved rules start before k x e))
                  (subst (λ (r : Round). IsNearby (window_after start (certified_rounds rules before ++ round_of x ∷ [])
                  (finalized_rounds rules before)) r) (subject_round k x e)
                  (certified_nearby start (certified_rounds rules before) (finalized_rounds rules before) (round_of x)
                  ordered)),
            )

    -- all that was taken
    pub all_nearby : (before ms taken : List (Activity S D C P G)) (b a : ℕ) → AreNearby before →
        AreTaken rules start before ms taken b a → AreNearby (before ++ taken)
    all_nearby before [] taken b a each (none, low, high) =
        subst AreNearby (sym (append-nil before) ∙ ap (λ ts. before ++ ts) (sym none)) each
    all_nearby before (k ∷ ms) taken b a each (inl (takes, rest, is, more)) =
        subst AreNearby (append_assoc before (k ∷ []) rest ∙ ap (λ ts. before ++ ts) (sym is))
        (all_nearby (before ++ k ∷ []) ms rest b a (one_nearby before k each takes) more)
    all_nearby before (k ∷ ms) taken b a each (inr (inl (out, n, is, more))) =
        all_nearby before ms taken n a each more
    all_nearby before (k ∷ ms) taken b a each (inr (inr (low, out, n, is, more))) =
        all_nearby before ms taken b n each more

    -- the recorded votes are at most five for each participant and view of the window
    pub few_recorded : (messages taken : List (Activity S D C P G)) (b a bound : ℕ) →
        AreTaken rules start [] messages taken b a →
        ((m : Activity S D C P G) → Contains messages m → IsOfOneRound rules.listed m) →
        let window = window_of rules start taken in
        let votes = valid_votes (in_rounds (is_from (floor_of window)) rules) taken in
        ((round : Round) → recorded_in rules.eq votes round ≤ 5 * rules.size round.epoch) →
        ((epoch : ℕ) → rules.size epoch ≤ bound) → votes_recorded rules.eq votes ≤ views_of window * (5 * bound)
    few_recorded messages taken b a bound are whole few sizes =
        let window = window_of rules start taken in
        let judged = in_rounds (is_from (floor_of window)) rules in
        let votes = valid_votes judged taken in
        let near = all_nearby [] messages taken b a (λ m h. absurd (Contains-none m h)) are in
        subst (λ n. votes_recorded rules.eq votes ≤ n * (5 * bound)) (rounds_count window)
        (covered (λ v. round_of v.subject) (5 * bound) (rounds_list window) (recorded_of rules.eq votes)
        (λ round r_in. let at = few round in let size = sizes round.epoch in omega (arith, at, size))
        (λ v v_in.
        let valid = among_votes rules.eq [] votes v v_in in
        let from = and_parts (is_from (floor_of window) (round_of v.subject)) (rules.good v.subject v.signer v.signature)
        (passes (is_valid judged) (flat_map (votes_in rules.listed) taken) v valid) in
        let (m, m_in, here) = from_joined (votes_in rules.listed) taken v
        (Contains-from_filter (is_valid judged) (flat_map (votes_in rules.listed) taken) v valid) in
        let same = All-contains (λ w. round_of w.subject ≡ activity_round m) (votes_in rules.listed m) v
        (whole m (taken_among start [] messages taken b a are m m_in)) here in
        let (positive, nearby) = near m m_in in
        nearby_in window terms (round_of v.subject) from.0
        (subst (λ (r : Round). 0 < r.view) (sym same) positive)
        (subst (λ (r : Round). IsNearby window r) (sym same) nearby)))
