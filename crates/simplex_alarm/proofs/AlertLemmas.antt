-- Evidence as it arises is noted once, message by message.
use Rattle.simplex_rules.proofs.Prelude.{Accusation, Activity, round_cmp, exact_pairs, exact_unsigned, list_any, ◌||◌, All, All-contains, All-push, Attestation, Bool, Contains, Scheme, rules_under, vote_on, Contains-append_cases, Contains-append_left, Contains-append_right, BTreeSet, Conflicting_finalize, Conflicting_notarize, Equal, EquivocationKind, Nullify_finalize, Ordering, kind_rank, nat_cmp, not, ordering_then, signer_cmp, signer_in, tied_itself, in_rounds, filter_map, Equivocation, IsEquivalence, List, None, Round, Rules, Schedule, SignedVote, Some, [], accused_by, accused_cmp, activity_round, and_parts, ap, append-nil, append_assoc, arith, cond, contains, evidence_from, evidence_of, message_is_news, false, false_from_ne_true, false≢true, filter, filter-append, is_eq, is_of, is_some, is_valid, length, length-append, map, refl, round_of, subst, sym, true, valid_votes, votes_in, ℕ, ⊎_elim, ◌++◌, ◌+◌, ◌&&◌, ◌∙◌, ◌∷◌, ◌≡◌}
use Rattle.simplex_rules.specs.declared.evidence.SignerInRound.{SignerInRound}
use Rattle.simplex_rules.specs.declared.judging.Judging.{Judging}
use Rattle.simplex_detector.specs.Detector.{RecallsAt, Recalls}
use Rattle.simplex_detector.specs.declared.round_state.RoundState.{RoundState}
use Rattle.simplex_detector.specs.RoundMap.{get}
use Rattle.simplex_detector.specs.declared.detector.Detector.{Detector}
use Rattle.std.specs.Int.{from_bool}
use Rattle.simplex_rules.proofs.EvidenceLemmas.{accused-from_evidence, accused_from_votes, evidence-from_accused, valid_votes-push, votes_from_accused}
use Rattle.simplex_rules.proofs.Filters.{filter_none, filter_filtered}
use Rattle.simplex_rules.proofs.PartLemmas.{accused-from_within, is_vote_of, same_evidence-within, votes_in_rounds}
use Rattle.simplex_rules.proofs.Lists.{Contains-cons_cases, Contains-filter_map, Contains-first, Contains-flat_map, Contains-from_filter, Contains-from_map, Contains-map, Contains-none, each, made_sound, same_bool, some_from_is_some}
use Rattle.simplex_detector.proofs.ReportLemmas.{accuses_own, found_in_round, names_in, none_against, own_name}
use Rattle.simplex_laws.proofs.NewsLemmas.{news_changes_state}
use Rattle.simplex_rules.proofs.RecordedLemmas.{evidence_of-slots}
use Rattle.simplex_rules.proofs.Places.{accused_cmp_total, exact_accused, exact_signers, is_of-true}
use Rattle.simplex_laws.proofs.StayLemmas.{evidence_of-stays}
use Rattle.simplex_ballots.specs.Rounds.{found_against}
use Rattle.simplex_rules.specs.Accusation.{accusations_of, key_cmp, key_of, way_of, way_rank}
use Rattle.simplex_alarm.specs.Alerts.{IsEachOnce, NotesAll, NotesMessage, Tells, TellsSome, TellsUntold, has_arisen, times_accused, untold}
use Rattle.simplex_evidence.specs.Activity.{contents_of}
use Rattle.simplex_evidence.specs.Contents.{AreInConflict, ContentsValue, OneCertificate, OneVote, TwoVotes, contents_round, contents_votes}
use Rattle.simplex_alarm.specs.declared.alerts.Alerts.{Alerts}
use Rattle.simplex_rules.specs.declared.evidence.Accusation as declared

pub equal_from : (o : Ordering) → is_eq o ≡ true → o ≡ Equal
equal_from Equal h = refl
equal_from _ h = absurd (false≢true h)

-- accusations that the order ties are equal
accused_same : (m n : Accusation) → is_eq (accused_cmp m n) ≡ true → m ≡ n
accused_same m n at = exact_accused m n (equal_from (accused_cmp m n) at)

-- what is not so is false
pub not-false : (b : Bool) → not b ≡ false → b ≡ true
not-false true h = refl
not-false false h = absurd (false≢true (sym h))

-- the code's accusations are ordered as accusations are
same_order : (m n : Accusation) → key_cmp (key_of m) (key_of n) ≡ accused_cmp m n
same_order m n = λ i. ordering_then (signer_cmp (signer_in m.round m.signer) (signer_in n.round n.signer))
    (nat_cmp (same_rank m.kind i) (same_rank n.kind i))
  where
    same_rank : (k : EquivocationKind) → way_rank (way_of k) ≡ kind_rank k
    same_rank Conflicting_notarize = refl
    same_rank Conflicting_finalize = refl
    same_rank Nullify_finalize = refl

-- which accusations arose, after one more
pub arises_by : (cmp : declared.Accusation → declared.Accusation → Ordering) → cmp ≡ key_cmp →
    (old new : BTreeSet declared.Accusation) (m : Accusation) (key : declared.Accusation) → key ≡ key_of m →
    ((q : declared.Accusation) → contains cmp new q ≡ cond (is_eq (cmp key q)) true (contains cmp old q)) →
    (n : Accusation) →
    contains key_cmp new (key_of n) ≡ cond (is_eq (accused_cmp m n)) true (contains key_cmp old (key_of n))
arises_by cmp order old new m key is updates n =
    subst (λ (by : _ → _ → Ordering). contains by new (key_of n)
    ≡ cond (is_eq (by key (key_of n))) true (contains by old (key_of n)))
    order (updates (key_of n)) ∙ (λ i. cond (is_eq (key_cmp (is i) (key_of n))) true (contains key_cmp old (key_of n)))
    ∙ (λ i. cond (is_eq (same_order m n i)) true (contains key_cmp old (key_of n)))

-- ---- one evidence

-- how often some evidence, and one more, accuses
times_push : {D G : Type 0} (es : List (Equivocation D G)) (e : Equivocation D G) (n : Accusation) →
    times_accused (es ++ e ∷ []) n ≡ times_accused es n + from_bool (is_eq (accused_cmp (accused_by e) n))
times_push es e n =
    let same = λ (f : Equivocation _ _). is_eq (accused_cmp (accused_by f) n) in
    ap length (filter-append same es (e ∷ [])) ∙ length-append (filter same es) (filter same (e ∷ []))
    ∙ ap (λ k. times_accused es n + k) (one (same e))
  where
    one : (b : Bool) → length (cond b (e ∷ []) []) ≡ from_bool b
    one true = refl
    one false = refl

module _ {S D P G : Type 0} (old new : Alerts S D P G) (e : Equivocation D G)
    (arises : (n : Accusation) → has_arisen new n ≡ cond (is_eq (accused_cmp (accused_by e) n)) true (has_arisen old n))
    (grows : untold new ≡ untold old ++ cond (has_arisen old (accused_by e)) [] (e ∷ [])) where
  -- what arose stays
  noted_stay : (n : Accusation) → has_arisen old n ≡ true → has_arisen new n ≡ true
  noted_stay n h = arises n ∙ (elim (is_eq (accused_cmp (accused_by e) n)) as (λ b. cond b true (has_arisen old n) ≡ true)
      [ true ↦ refl | false ↦ h ])

  -- the evidence is noted, unless it arose before
  pub notes_one : NotesAll (e ∷ []) old new
  notes_one = record {
    added = λ eq vs told sound some.
        let own = All-contains (λ f. evidence_of eq vs (accused_by f) ≡ Some f) (e ∷ []) e sound (Contains-first e []) in
        (elim (has_arisen old (accused_by e)) as (λ b. has_arisen old (accused_by e) ≡ b →
        untold new ≡ untold old ++ cond b [] (e ∷ []) → TellsSome eq vs told new) [
          | true ↦ λ known is. again eq vs told some own known (is ∙ append-nil (untold old))
          | false ↦ λ fresh is. first eq vs told some own fresh is
        ]) refl grows;
    stay = noted_stay;
    noted = λ f f_in. ⊎_elim
        (λ is. subst (λ g. has_arisen new (accused_by g) ≡ true) is own_arises)
        (λ none. absurd (Contains-none f none)) (Contains-cons_cases e [] f f_in);
  }
    where
      own_arises : has_arisen new (accused_by e) ≡ true
      own_arises = arises (accused_by e)
          ∙ ap (λ o. cond (is_eq o) true (has_arisen old (accused_by e))) (tied (accused_by e))
        where
          tied : (n : Accusation) → accused_cmp n n ≡ Equal
          tied n = tied_itself accused_cmp_total n

      -- an accusation that arises now has its evidence
      arises_now : (eq : D → D → Bool) (vs : List (SignedVote D G)) (told : List (Equivocation D G)) →
          TellsSome eq vs told old → evidence_of eq vs (accused_by e) ≡ Some e → (n : Accusation) →
          has_arisen new n ≡ true → is_some (evidence_of eq vs n) ≡ true
      arises_now eq vs told some own n h =
          (elim (is_eq (accused_cmp (accused_by e) n)) as (λ b. is_eq (accused_cmp (accused_by e) n) ≡ b →
          cond b true (has_arisen old n) ≡ true → is_some (evidence_of eq vs n) ≡ true) [
            | true ↦ λ at k. subst (λ m. is_some (evidence_of eq vs m) ≡ true) (accused_same (accused_by e) n at)
                (ap is_some own)
            | false ↦ λ away k. some.arisen n k
          ]) refl (sym (arises n) ∙ h)

      again : (eq : D → D → Bool) (vs : List (SignedVote D G)) (told : List (Equivocation D G)) → TellsSome eq vs told old →
          evidence_of eq vs (accused_by e) ≡ Some e → has_arisen old (accused_by e) ≡ true → untold new ≡ untold old →
          TellsSome eq vs told new
      again eq vs told some own known is = record {
        arisen = arises_now eq vs told some own;
        sound = subst (λ us. All (λ f. evidence_of eq vs (accused_by f) ≡ Some f) (told ++ us)) (sym is) some.sound;
        once = λ n. ap (λ us. times_accused (told ++ us) n) is ∙ some.once n ∙ ap from_bool (sym (arises n
            ∙ (elim (is_eq (accused_cmp (accused_by e) n)) as (λ b. is_eq (accused_cmp (accused_by e) n) ≡ b →
            cond b true (has_arisen old n) ≡ has_arisen old n) [
              | true ↦ λ at. sym (subst (λ m. has_arisen old m ≡ true) (accused_same (accused_by e) n at) known)
              | false ↦ λ away. refl
            ]) refl));
      }

      first : (eq : D → D → Bool) (vs : List (SignedVote D G)) (told : List (Equivocation D G)) → TellsSome eq vs told old →
          evidence_of eq vs (accused_by e) ≡ Some e → has_arisen old (accused_by e) ≡ false →
          untold new ≡ untold old ++ e ∷ [] → TellsSome eq vs told new
      first eq vs told some own fresh is =
          let all : told ++ untold new ≡ (told ++ untold old) ++ e ∷ [] =
          ap (λ us. told ++ us) is ∙ sym (append_assoc told (untold old) (e ∷ [])) in
          record {
            arisen = arises_now eq vs told some own;
            sound = subst (All (λ f. evidence_of eq vs (accused_by f) ≡ Some f)) (sym all)
                (All-push (λ f. evidence_of eq vs (accused_by f) ≡ Some f) (told ++ untold old) e some.sound own);
            once = λ n. ap (λ es. times_accused es n) all ∙ times_push (told ++ untold old) e n
                ∙ ap (λ k. k + from_bool (is_eq (accused_cmp (accused_by e) n))) (some.once n) ∙ sum n
                ∙ ap from_bool (sym (arises n));
          }
        where
          sum : (n : Accusation) → from_bool (has_arisen old n) + from_bool (is_eq (accused_cmp (accused_by e) n))
              ≡ from_bool (cond (is_eq (accused_cmp (accused_by e) n)) true (has_arisen old n))
          sum n =
              (elim (is_eq (accused_cmp (accused_by e) n)) as (λ b. is_eq (accused_cmp (accused_by e) n) ≡ b →
              from_bool (has_arisen old n) + from_bool b ≡ from_bool (cond b true (has_arisen old n))) [
                | true ↦ λ at. ap (λ b. from_bool b + 1)
                    (subst (λ m. has_arisen old m ≡ false) (accused_same (accused_by e) n at) fresh)
                | false ↦ λ away. omega arith
              ]) refl

-- ---- some evidence

-- a list of no elements
pub no_items : {X : Type 0} (xs : List X) → length xs ≡ 0 → xs ≡ []
no_items [] h = refl
no_items (x ∷ xs) h = absurd (omega (arith, h))

-- nothing is noted
pub notes_none : {S D P G : Type 0} (alerts : Alerts S D P G) → NotesAll [] alerts alerts
notes_none alerts = record {
  added = λ eq vs told sound some. some;
  stay = λ n h. h;
  noted = λ e e_in. absurd (Contains-none e e_in);
}

-- evidence and more evidence
pub notes_more : {S D P G : Type 0} (es fs : List (Equivocation D G)) (a b c : Alerts S D P G) → NotesAll es a b →
    NotesAll fs b c → NotesAll (es ++ fs) a c
notes_more es fs a b c one next = record {
  added = λ eq vs told sound some.
      let P = λ (e : Equivocation _ _). evidence_of eq vs (accused_by e) ≡ Some e in
      next.added eq vs told (each P fs (λ e e_in. All-contains P (es ++ fs) e sound (Contains-append_right es fs e e_in)))
      (one.added eq vs told (each P es (λ e e_in. All-contains P (es ++ fs) e sound (Contains-append_left es fs e e_in))) some);
  stay = λ n h. next.stay n (one.stay n h);
  noted = λ e e_in. ⊎_elim (λ k. next.stay (accused_by e) (one.noted e k)) (next.noted e) (Contains-append_cases es fs e e_in);
}

-- what was not told is told, and nothing else arises
pub tells_untold : {S D P G : Type 0} (taken : List (Equivocation D G)) (old new : Alerts S D P G) → taken ≡ untold old →
    untold new ≡ [] → ((n : Accusation) → has_arisen new n ≡ has_arisen old n) → TellsUntold taken old new
tells_untold taken old new is none same = record {
  taken_is = is;
  none_left = none;
  tells = λ eq vs told tells.
      let all : told ++ untold old ≡ (told ++ taken) ++ untold new =
      ap (λ us. told ++ us) (sym is) ∙ sym (append-nil (told ++ taken)) ∙ ap (λ us. (told ++ taken) ++ us) (sym none) in
      record { arisen = λ n. same n ∙ tells.arisen n; all = subst (IsEachOnce eq vs) all tells.all };
}

-- ---- one message more

module _ {S D C P G : Type 0} (rules : Rules S D C P G) (l : IsEquivalence rules.eq) (messages : List (Activity S D C P G))
    (m : Activity S D C P G) (round : Round) (signers : List ℕ)
    (covers : (w : SignedVote D G) → Contains (votes_in rules.listed m) w →
    (round_of w.subject ≡ round) × Contains signers w.signer) (told : List (Equivocation D G)) (old new : Alerts S D P G)
    (tells : Tells rules.eq (valid_votes rules messages) told old) where
  abbrev before : List (SignedVote D G)
  before = valid_votes rules messages

  abbrev more : List (SignedVote D G)
  more = filter (is_valid rules) (votes_in rules.listed m)

  -- what was told before the message is evidence after it, too
  stays : TellsSome rules.eq (before ++ more) told old
  stays = record {
    arisen = λ n h.
        let (e, is) = some_from_is_some (evidence_of rules.eq before n) (sym (tells.arisen n) ∙ h) in
        ap is_some (evidence_of-stays rules.eq before more n e is);
    sound = each (λ e. evidence_of rules.eq (before ++ more) (accused_by e) ≡ Some e) (told ++ untold old) (λ e e_in.
        evidence_of-stays rules.eq before more (accused_by e) e
        (All-contains (λ e. evidence_of rules.eq before (accused_by e) ≡ Some e) (told ++ untold old) e tells.all.sound e_in));
    once = λ n. tells.all.once n ∙ ap from_bool (sym (tells.arisen n));
  }

  -- evidence that is there with the message was there before, or accuses a signer of it
  pub tells_next : (TellsSome rules.eq (valid_votes rules (messages ++ m ∷ [])) told old →
      TellsSome rules.eq (valid_votes rules (messages ++ m ∷ [])) told new) →
      ((n : Accusation) → has_arisen old n ≡ true → has_arisen new n ≡ true) →
      ((n : Accusation) → n.round ≡ round → Contains signers n.signer →
      is_some (evidence_of rules.eq (valid_votes rules (messages ++ m ∷ [])) n) ≡ true → has_arisen new n ≡ true) →
      Tells rules.eq (valid_votes rules (messages ++ m ∷ [])) told new
  tells_next added stay noted =
      let push = valid_votes-push rules messages m in
      let some = added (subst (λ vs. TellsSome rules.eq vs told old) (sym push) stays) in
      let vs = valid_votes rules (messages ++ m ∷ []) in
      let complete : (n : Accusation) → is_some (evidence_of rules.eq vs n) ≡ true → has_arisen new n ≡ true =
      λ n h.
      let (v, w, v_in, w_in, of_v, against) =
      votes_from_accused rules.eq vs n (accused-from_evidence rules.eq vs n h) in
      let at = is_of-true n.round n.signer v of_v in
      let beside = is_of-true (round_of v.subject) v.signer w
      (and_parts (is_of (round_of v.subject) v.signer w) _ against).0 in
      let known = λ (u : SignedVote D G) (u_in : Contains more u) (here : round_of u.subject ≡ n.round)
      (by : u.signer ≡ n.signer).
      let own = covers u (Contains-from_filter (is_valid rules) (votes_in rules.listed m) u u_in).0 in
      noted n (sym here ∙ own.0) (subst (Contains signers) by own.1) h in
      ⊎_elim
      (λ v_old. ⊎_elim
      (λ w_old. stay n (tells.arisen n ∙ evidence-from_accused rules.eq before l n
      (accused_from_votes rules.eq before n v w v_old w_old of_v against)))
      (λ w_new. known w w_new (beside.0 ∙ at.0) (beside.1 ∙ at.1))
      (Contains-append_cases before more w (subst (λ us. Contains us w) push w_in)))
      (λ v_new. known v v_new at.0 at.1)
      (Contains-append_cases before more v (subst (λ us. Contains us v) push v_in)) in
      let arisen : (n : Accusation) → has_arisen new n ≡ is_some (evidence_of rules.eq vs n) =
      λ n. same_bool _ _ (some.arisen n) (complete n) in
      record {
        arisen = arisen;
        all = record { sound = some.sound; once = λ n. some.once n ∙ ap from_bool (arisen n) };
      }

-- the signers of what a message holds
abbrev pub signers_of_held : {S D C P G : Type 0} → (C → List (Attestation S P G)) → ContentsValue D C G → List ℕ
signers_of_held listed (OneVote v) = v.signer ∷ []
signers_of_held listed (OneCertificate x c) = map (λ a. a.signer) (listed c)
signers_of_held listed (TwoVotes v w) = v.signer ∷ []

-- its votes are of its round, and by its signers
held_covers : {S D C P G : Type 0} (eq : D → D → Bool) (listed : C → List (Attestation S P G)) (held : ContentsValue D C G) →
    AreInConflict eq held → (w : SignedVote D G) → Contains (contents_votes listed held) w →
    (round_of w.subject ≡ contents_round held) × Contains (signers_of_held listed held) w.signer
held_covers eq listed (OneVote v) conflict w w_in =
    ⊎_elim (λ is. (
      ap (λ (u : SignedVote _ _). round_of u.subject) (sym is),
      subst (Contains (v.signer ∷ [])) (ap (λ (u : SignedVote _ _). u.signer) is) (Contains-first v.signer []),
    ))
    (λ none. absurd (Contains-none w none)) (Contains-cons_cases v [] w w_in)
held_covers eq listed (OneCertificate x c) conflict w w_in =
    let (a, a_in, is) = Contains-from_map (vote_on x) (listed c) w w_in in (
      ap (λ (u : SignedVote _ _). round_of u.subject) (sym is),
      subst (Contains (map (λ a. a.signer) (listed c))) (ap (λ (u : SignedVote _ _). u.signer) is)
          (Contains-map (λ (a : Attestation _ _ _). a.signer) (listed c) a a_in),
    )
held_covers eq listed (TwoVotes v u) (kind, clashes) w w_in =
    let beside = is_of-true (round_of v.subject) v.signer u (and_parts (is_of (round_of v.subject) v.signer u) _ clashes).0 in
    ⊎_elim
    (λ is. (
      ap (λ (t : SignedVote _ _). round_of t.subject) (sym is),
      subst (Contains (v.signer ∷ [])) (ap (λ (t : SignedVote _ _). t.signer) is) (Contains-first v.signer []),
    ))
    (λ rest. ⊎_elim
    (λ is. (
      ap (λ (t : SignedVote _ _). round_of t.subject) (sym is) ∙ beside.0,
      subst (Contains (v.signer ∷ [])) (sym beside.1 ∙ ap (λ (t : SignedVote _ _). t.signer) is) (Contains-first v.signer []),
    ))
    (λ none. absurd (Contains-none w none)) (Contains-cons_cases u [] w rest))
    (Contains-cons_cases v (u ∷ []) w w_in)

-- a message of which the evidence against its signers is noted
pub notes_message : {S D C P G : Type 0} (scheme : Scheme S D C P G) → IsEquivalence scheme.eq →
    (detector : Detector S D P G) (m : Activity S D C P G) → AreInConflict scheme.eq (contents_of m) → (round : Round) →
    round ≡ activity_round m → (signers : List ℕ) → signers ≡ signers_of_held scheme.listed (contents_of m) →
    (found : List (Equivocation D G)) →
    ((judging : Judging) (schedule : Schedule S) (messages : List (Activity S D C P G)) →
    Recalls (rules_under scheme judging schedule) messages detector → found
    ≡ filter_map (evidence_of scheme.eq (valid_votes (rules_under scheme judging schedule) messages))
    (names_in round signers)) →
    (old new : Alerts S D P G) → NotesAll found old new → NotesMessage (rules_under scheme) detector m old new
notes_message {S} {D} {C} {P} {G} scheme l detector m conflict round at signers are found is old new notes judging schedule
    messages told holds tells =
    tells_next rules l messages m round signers
    (λ w w_in. let own = held_covers scheme.eq scheme.listed (contents_of m) conflict w w_in in
    (own.0 ∙ sym at, subst (λ qs. Contains qs w.signer) (sym are) own.1)) told old new tells
    (notes.added scheme.eq vs told (subst (All (λ e. evidence_of scheme.eq vs (accused_by e) ≡ Some e)) (sym found_is)
    (made_sound accused_by accused_cmp (evidence_of scheme.eq vs) (accuses_own scheme.eq vs) (names_in round signers))))
    notes.stay noted
  where
    rules : Rules S D C P G
    rules = rules_under scheme judging schedule

    vs : List (SignedVote D G)
    vs = valid_votes rules (messages ++ m ∷ [])

    found_is : found ≡ filter_map (evidence_of scheme.eq vs) (names_in round signers)
    found_is = is judging schedule (messages ++ m ∷ []) holds

    noted : (n : Accusation) → n.round ≡ round → Contains signers n.signer → is_some (evidence_of scheme.eq vs n) ≡ true →
        has_arisen new n ≡ true
    noted n here by h =
        let (e, e_is) = some_from_is_some (evidence_of scheme.eq vs n) h in
        let among = Contains-flat_map (accusations_of round) signers n.signer n by
        (subst (λ r. Contains (accusations_of r n.signer) n) here (own_name n)) in
        subst (λ m. has_arisen new m ≡ true) (accuses_own scheme.eq vs n e e_is)
        (notes.noted e (subst (λ es. Contains es e) (sym found_is)
        (Contains-filter_map (evidence_of scheme.eq vs) (names_in round signers) n e among e_is)))

-- the round of a message is recorded, and the evidence in its votes against the message's signers is noted
pub notes_recorded : {S D C P G : Type 0} (scheme : Scheme S D C P G) → IsEquivalence scheme.eq →
    (detector : Detector S D P G) (m : Activity S D C P G) → AreInConflict scheme.eq (contents_of m) → (round : Round) →
    round ≡ activity_round m → (signers : List ℕ) → signers ≡ signers_of_held scheme.listed (contents_of m) →
    (round_state : RoundState S D P G) → Some round_state ≡ get round_cmp detector.rounds round →
    (old new : Alerts S D P G) → NotesAll (found_against scheme.eq round_state.votes signers) old new →
    NotesMessage (rules_under scheme) detector m old new
notes_recorded scheme l detector m conflict round at signers are round_state is =
    notes_message scheme l detector m conflict round at signers are (found_against scheme.eq round_state.votes signers)
    (λ judging schedule messages holds. let rules = rules_under scheme judging schedule in
    found_in_round scheme.eq (valid_votes rules messages) (rules.size round.epoch) round round_state.votes
    (subst (RecallsAt rules messages round) (sym is) (holds round)).votes signers)

-- nothing is recorded of the round of a message
pub notes_unrecorded : {S D C P G : Type 0} (scheme : Scheme S D C P G) → IsEquivalence scheme.eq →
    (detector : Detector S D P G) (m : Activity S D C P G) → AreInConflict scheme.eq (contents_of m) → (round : Round) →
    round ≡ activity_round m → None ≡ get round_cmp detector.rounds round → (alerts : Alerts S D P G) →
    NotesMessage (rules_under scheme) detector m alerts alerts
notes_unrecorded scheme l detector m conflict round at is alerts =
    let signers = signers_of_held scheme.listed (contents_of m) in
    notes_message scheme l detector m conflict round at signers refl []
    (λ judging schedule messages holds. let rules = rules_under scheme judging schedule in
    none_against scheme.eq (valid_votes rules messages) round
    (subst (RecallsAt rules messages round) (sym is) (holds round)).votes signers)
    alerts alerts (notes_none alerts)

-- a message that is no news completes no evidence
pub tells_same : {S D C P G : Type 0} (rules : Rules S D C P G) → IsEquivalence rules.eq →
    (messages : List (Activity S D C P G)) (m : Activity S D C P G) → message_is_news rules messages m ≡ false →
    (told : List (Equivocation D G)) (alerts : Alerts S D P G) →
    Tells rules.eq (valid_votes rules messages) told alerts →
    Tells rules.eq (valid_votes rules (messages ++ m ∷ [])) told alerts
tells_same rules l messages m none told alerts tells =
    let state = (news_changes_state rules l messages m).0 none in
    let same : (n : Accusation) → evidence_of rules.eq (valid_votes rules messages) n
    ≡ evidence_of rules.eq (valid_votes rules (messages ++ m ∷ [])) n =
    λ n. evidence_of-slots rules.eq (valid_votes rules messages) n
    ∙ (λ i. evidence_from (λ kind. sym (state.votes kind n.round n.signer) i) n.kind)
    ∙ sym (evidence_of-slots rules.eq (valid_votes rules (messages ++ m ∷ [])) n) in
    record {
      arisen = λ n. tells.arisen n ∙ ap is_some (same n);
      all = record {
        sound = each _ (told ++ untold alerts) (λ e e_in. sym (same (accused_by e))
            ∙ All-contains (λ e. evidence_of rules.eq (valid_votes rules messages) (accused_by e) ≡ Some e)
            (told ++ untold alerts)
            e tells.all.sound e_in);
        once = λ n. tells.all.once n ∙ ap (λ o. from_bool (is_some o)) (same n);
      };
    }

-- ---- a floor

module _ {S D C P G : Type 0} (rules : Rules S D C P G) (part : Round → Bool) (messages : List (Activity S D C P G)) where
  abbrev pub here : Equivocation D G → Bool
  here e = part (accused_by e).round

  -- the evidence of an accusation in the part
  evidence_in_part : (n : Accusation) → is_some (evidence_of rules.eq (valid_votes (in_rounds part rules) messages) n)
      ≡ (part n.round && is_some (evidence_of rules.eq (valid_votes rules messages) n))
  evidence_in_part n =
      let all = valid_votes rules messages in
      ap (λ vs. is_some (evidence_of rules.eq vs n)) (votes_in_rounds rules part messages)
      ∙ (elim (part n.round) as (λ b. part n.round ≡ b →
      is_some (evidence_of rules.eq (filter (is_vote_of part) all) n) ≡ (b && is_some (evidence_of rules.eq all n))) [
        | true ↦ λ in_part. ap is_some (same_evidence-within rules.eq part all n in_part)
        | false ↦ λ away. false_from_ne_true _ (λ h. false≢true (sym away ∙
            (accused-from_within rules.eq part all n
            (accused-from_evidence rules.eq (filter (is_vote_of part) all) n h)).0))
      ]) refl

  same_round_accused : (n : Accusation) (e : Equivocation D G) → is_eq (accused_cmp (accused_by e) n) ≡ true →
      here e ≡ part n.round
  same_round_accused n e at = ap (λ (m : Accusation). part m.round) (accused_same (accused_by e) n at)

  -- how often the evidence of the part accuses
  times_in_part : (es : List (Equivocation D G)) (n : Accusation) →
      times_accused (filter here es) n ≡ cond (part n.round) (times_accused es n) 0
  times_in_part es n =
      let same = λ (e : Equivocation D G). is_eq (accused_cmp (accused_by e) n) in
      (elim (part n.round) as (λ b. part n.round ≡ b → times_accused (filter here es) n ≡ cond b (times_accused es n) 0) [
        | true ↦ λ in_part. ap length (filter_filtered same here (λ e at. same_round_accused n e at ∙ in_part) es)
        | false ↦ λ away. ap length (filter_none same (filter here es) (each (λ e. same e ≡ false) (filter here es) (λ e e_in.
            false_from_ne_true (same e) (λ at. false≢true (sym away ∙ sym (same_round_accused n e at)
            ∙ (Contains-from_filter here es e e_in).1)))))
      ]) refl

  pub tells_part : (told : List (Equivocation D G)) (old new : Alerts S D P G) →
      ((n : Accusation) → has_arisen new n ≡ (part n.round && has_arisen old n)) →
      untold new ≡ filter here (untold old) → Tells rules.eq (valid_votes rules messages) told old →
      Tells rules.eq (valid_votes (in_rounds part rules) messages) (filter here told) new
  tells_part told old new arises left tells =
      let all = valid_votes rules messages in
      let within = valid_votes (in_rounds part rules) messages in
      let joined : filter here told ++ untold new ≡ filter here (told ++ untold old) =
      ap (λ us. filter here told ++ us) left ∙ sym (filter-append here told (untold old)) in
      record {
        arisen = λ n. arises n ∙ ap (λ b. part n.round && b) (tells.arisen n) ∙ sym (evidence_in_part n);
        all = record {
          sound = subst (All (λ e. evidence_of rules.eq within (accused_by e) ≡ Some e)) (sym joined)
              (each _ (filter here (told ++ untold old)) (λ e e_in.
              let (e_told, in_part) = Contains-from_filter here (told ++ untold old) e e_in in
              ap (λ vs. evidence_of rules.eq vs (accused_by e)) (votes_in_rounds rules part messages)
              ∙ same_evidence-within rules.eq part all (accused_by e) in_part
              ∙ All-contains (λ e. evidence_of rules.eq all (accused_by e) ≡ Some e) (told ++ untold old) e tells.all.sound
              e_told));
          once = λ n. ap (λ es. times_accused es n) joined ∙ times_in_part (told ++ untold old) n
              ∙ ap (λ k. cond (part n.round) k 0) (tells.all.once n) ∙ sum (part n.round)
              (is_some (evidence_of rules.eq all n)) ∙ ap from_bool (sym (evidence_in_part n));
        };
      }
    where
      sum : (a b : Bool) → cond a (from_bool b) 0 ≡ from_bool (a && b)
      sum true b = refl
      sum false b = refl

-- ---- the set of accusations

-- a test of the first elements of a filtered list
any_filtered : {X : Type 0} (p q : X → Bool) (b : Bool) → ((x : X) → p x ≡ true → q x ≡ b) → (xs : List X) →
    list_any p (filter q xs) ≡ (b && list_any p xs)
any_filtered p q true same [] = refl
any_filtered p q false same [] = refl
any_filtered p q b same (x ∷ xs) =
    (elim (p x) as (λ k. p x ≡ k → list_any p (cond (q x) (x ∷ filter q xs) (filter q xs)) ≡ (b && (k || list_any p xs))) [
      | true ↦ λ at. (elim b as (λ c. q x ≡ c → list_any p (filter q xs) ≡ (c && list_any p xs) →
          list_any p (cond (q x) (x ∷ filter q xs) (filter q xs)) ≡ (c && true)) [
            | true ↦ λ is rest. (λ i. list_any p (cond (is i) (x ∷ filter q xs) (filter q xs)))
                ∙ (λ i. at i || list_any p (filter q xs))
            | false ↦ λ is rest. (λ i. list_any p (cond (is i) (x ∷ filter q xs) (filter q xs))) ∙ rest
          ]) (same x at) (any_filtered p q b same xs)
      | false ↦ λ at. (elim (q x) as (λ c. list_any p (cond c (x ∷ filter q xs) (filter q xs)) ≡ list_any p (filter q xs)) [
        | true ↦ λ i. at i || list_any p (filter q xs)
        | false ↦ refl
      ]) ∙ any_filtered p q b same xs
    ]) refl

-- the accusations of a part of the rounds
pub arisen_in_part : (part : Round → Bool) (old new : BTreeSet declared.Accusation) →
    new.keys ≡ filter (λ q. part q.accused.round) old.keys → (n : Accusation) →
    contains key_cmp new (key_of n) ≡ (part n.round && contains key_cmp old (key_of n))
arisen_in_part part old new are n =
    ap (list_any (λ q. is_eq (key_cmp (key_of n) q))) are
    ∙ any_filtered (λ q. is_eq (key_cmp (key_of n) q)) (λ q. part q.accused.round) (part n.round)
    (λ q at. ap (λ (s : SignerInRound). part s.round) (sym (ap (λ (p : _). p.0)
    (exact_pairs signer_cmp nat_cmp exact_signers exact_unsigned ((key_of n).accused, way_rank (key_of n).kind)
    (q.accused, way_rank q.kind) (equal_from (key_cmp (key_of n) q) at))))) old.keys
