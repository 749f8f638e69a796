-- Which signers and rounds are suspect, and that no other signature has a part in the evidence and the splits.
use Rattle.simplex_rules.proofs.Prelude.{signer_in, Scheme, Accusation, Activity, All-contains, All-nil, AreLawful, AreSplits, Bool, Conflicting_finalize, Conflicting_notarize, Contains, Equivocation, EquivocationKind, IsEquivalence, IsEvidence, IsTrue, JudgeAlike, List, None, Nullify_finalize, Option, Round, Rules, Schedule, SignedVote, Some, SubjectValue, Suspected, SuspectsSuffice, [], accused_by, accused_count, and-false, and_parts, ap, are_split, arith, certified_by, certified_in, certified_subjects, certified_under, claimed, clash, committee_of, cond, cons_option, contains, contradicts, distinct_count, evidence_of, false, false≢true, faults_of, filter, find, first_kind, flat_map, if_certified, is_accused, is_accused_in, is_at, is_of, is_some, is_split, is_suspect, is_suspect_round, is_valid, judged_by, le-ltb, lt-ltb, map, nat_eq, nat_lt, refl, round_cmp, round_of, rules_of, rules_under, signer_cmp, size_by, split_of, subject_and_certificate, subst, suspect_of, sym, true, valid_by, valid_under, valid_votes, votes_in, with_first, with_second, ℕ, ◌&&◌, ◌+◌, ◌||◌, ◌↔◌, ◌∙◌, ◌∷◌, ◌≡◌, ◌≤◌}
use Rattle.simplex_rules.specs.declared.evidence.SignerInRound.{SignerInRound}
use Rattle.simplex_rules.specs.declared.judging.Judging.TheVariants.{Claimed, Suspects}
use Rattle.simplex_rules.specs.declared.split.Split.{Split}
use Rattle.simplex_rules.specs.declared.judging.SuspectSigners.{SuspectSigners}
use Rattle.simplex_rules.proofs.AccountLemmas.{certified_parts, counted_signer, distinct_count-same, kind_from_accused_in, accused_in}
use Rattle.simplex_rules.proofs.EvidenceLemmas.{evidence_exists, first_spot, moved_evidence, accused_by_more, accused_from_votes, valid_from, valid_in, votes_from_accused}
use Rattle.simplex_rules.proofs.Lists.{Contains-filter, Contains-first, Contains-from_filter, Contains-from_filter_map, Contains-from_list_any, Contains-from_map, Contains-map, Contains-none, any_from_Contains, found, same_bool}
use Rattle.simplex_rules.proofs.Filters.{find_filtered}
use Rattle.simplex_rules.proofs.Places.{is_at-true, is_of-true}
use Rattle.simplex_rules.proofs.SplitLemmas.{enough_in_split, from_subjects, moved_splits, split_more, split_exists, split_opposites}

-- the signers of the claimed evidence are suspect, and so are their rounds
abbrev pub HasSuspects : {D G : Type 0} → List (Equivocation D G) → Suspected → Type 0
HasSuspects {D} {G} claims suspected =
    (e : Equivocation D G) → Contains claims e →
    IsTrue (suspected.signers (round_of e.first.subject) e.first.signer) × IsTrue (suspected.rounds (round_of e.first.subject))

-- the same rules, except that only votes of suspects in their rounds are valid, and only suspect rounds have certified subjects
abbrev pub among : {S D C P G : Type 0} → Rules S D C P G → Suspected → Rules S D C P G
among rules suspected =
    judged_by rules (λ x signer signature. suspected.signers (round_of x) signer && rules.good x signer signature)
    (λ x certificate. suspected.rounds (round_of x) && rules.certified x certificate)

-- each signer who is accused is suspect in its round, and the round is suspect
abbrev pub AreSuspect : {S D C P G : Type 0} → Rules S D C P G → List (Activity S D C P G) → Suspected → Type 0
AreSuspect rules messages suspected =
    (n : Accusation) → IsTrue (is_accused rules.eq (valid_votes rules messages) n) →
    IsTrue (suspected.signers n.round n.signer) × IsTrue (suspected.rounds n.round)

-- where each accused signer is suspect in its round, judging suspects alone yields the evidence and the splits of all messages
pub record DetermineReports {S D C P G : Type 0} (rules : Rules S D C P G) (messages : List (Activity S D C P G))
    (suspected : Suspected) : Type 0 where
  pub evidence : (es : List (Equivocation D G)) → IsEvidence rules.eq (valid_votes (among rules suspected) messages) es
      ↔ IsEvidence rules.eq (valid_votes rules messages) es
  pub splits : (splits : List Split) → AreSplits (among rules suspected) messages splits ↔ AreSplits rules messages splits

-- ---- votes of suspects

-- whether a vote is of a suspect in its round
abbrev pub here : {D G : Type 0} → (Round → ℕ → Bool) → SignedVote D G → Bool
here f v = f (round_of v.subject) v.signer

module _ {D G : Type 0} (eq : D → D → Bool) (l : IsEquivalence eq) (vs : List (SignedVote D G)) (f : Round → ℕ → Bool)
    (covers : (n : Accusation) → is_accused eq vs n ≡ true → f n.round n.signer ≡ true) where
  -- the votes of suspects
  abbrev ws : List (SignedVote D G)
  ws = filter (here f) vs

  -- if one of two votes that contradict is of a suspect, so is the other
  here_both : (kind : EquivocationKind) (v w : SignedVote D G) → contradicts eq kind v w ≡ true → here f w ≡ here f v
  here_both kind v w h =
      let at = is_of-true _ _ w (and_parts (is_of (round_of v.subject) v.signer w) (clash eq kind v.subject w.subject) h).0 in
      λ i. f (at.0 i) (at.1 i)

  -- the votes of suspects make the same accusations
  same_accused : (n : Accusation) → is_accused eq ws n ≡ is_accused eq vs n
  same_accused n = same_bool _ _ (accused_by_more eq vs ws (λ v h. (Contains-from_filter (here f) vs v h).0) n) (λ h.
      let (v, w, in_v, in_w, of_v, against) = votes_from_accused eq vs n h in
      let at = is_of-true n.round n.signer v of_v in
      let v_here : here f v ≡ true = (λ i. f (at.0 i) (at.1 i)) ∙ covers n h in
      accused_from_votes eq ws n v w (Contains-filter (here f) vs v in_v v_here)
      (Contains-filter (here f) vs w in_w (here_both n.kind v w against ∙ v_here)) of_v against)

  -- and give them the same evidence
  same_evidence : (n : Accusation) → evidence_of eq ws n ≡ evidence_of eq vs n
  same_evidence n =
      let at : SignedVote D G → Bool = is_at (first_kind n.kind) n.round n.signer in
      let none : (o : Option (Equivocation D G)) → is_some o ≡ false → o ≡ None =
      elim [ None ↦ λ h. refl | Some e ↦ λ h. absurd (false≢true (sym h)) ] in
      (elim (is_accused eq vs n) as (λ b. is_accused eq vs n ≡ b → evidence_of eq ws n ≡ evidence_of eq vs n) [
        | true ↦ λ h.
            let there : (v : SignedVote D G) → at v ≡ true → here f v ≡ true = λ v v_at.
            let s = is_at-true (first_spot n) v v_at in (λ i. f (s i).round (s i).signer) ∙ covers n h in
            ap (with_first eq ws n.kind) (find_filtered at (here f) there vs) ∙
            (elim (find at vs) as (λ o. find at vs ≡ o → with_first eq ws n.kind o ≡ with_first eq vs n.kind o) [
              | None ↦ λ e. refl
              | Some v ↦ λ e. ap (with_second n.kind v) (find_filtered (contradicts eq n.kind v) (here f)
                  (λ w c. here_both n.kind v w c ∙ there v (found at vs v e).1) vs)
            ]) refl
        | false ↦ λ h. none _ (evidence_exists eq ws l n ∙ same_accused n ∙ h) ∙ sym (none _ (evidence_exists eq vs l n ∙ h))
      ]) refl

-- votes that make the same accusations accuse as many in a round
pub same_count : {D G : Type 0} (eq : D → D → Bool) (vs ws : List (SignedVote D G)) →
    ((n : Accusation) → is_accused eq ws n ≡ is_accused eq vs n) → (round : Round) →
    accused_count eq ws round ≡ accused_count eq vs round
same_count eq vs ws names round =
    let same : (q : ℕ) → is_accused_in eq ws round q ≡ is_accused_in eq vs round q = λ q i.
    names (record { round = round; signer = q; kind = Conflicting_notarize }) i
    || (names (record { round = round; signer = q; kind = Conflicting_finalize }) i
    || names (record { round = round; signer = q; kind = Nullify_finalize }) i) in
    distinct_count-same _ _
    (λ q h. counted_signer eq vs round q (sym (same q) ∙ (Contains-from_filter (is_accused_in eq ws round) _ q h).1))
    (λ q h. counted_signer eq ws round q (same q ∙ (Contains-from_filter (is_accused_in eq vs round) _ q h).1))

and_right_true : (a : Bool) → (a && true) ≡ a
and_right_true a = elim a as (λ b. (b && true) ≡ b) [ true ↦ refl | false ↦ refl ]

module _ {S D C P G : Type 0} (rules : Rules S D C P G) (l : AreLawful rules) (messages : List (Activity S D C P G))
    (s : Suspected) (covers : AreSuspect rules messages s) where
  -- the valid votes among suspects are those of suspects
  votes_among : valid_votes (among rules s) messages ≡ filter (here s.signers) (valid_votes rules messages)
  votes_among = twice (flat_map (votes_in rules.listed) messages)
    where
      twice : (vs : List (SignedVote D G)) →
          filter (is_valid (among rules s)) vs ≡ filter (here s.signers) (filter (is_valid rules) vs)
      twice [] = refl
      twice (v ∷ vs) =
          elim (is_valid rules v) as (λ b. cond (here s.signers v && b) (v ∷ filter (is_valid (among rules s)) vs)
          (filter (is_valid (among rules s)) vs)
          ≡ filter (here s.signers) (cond b (v ∷ filter (is_valid rules) vs) (filter (is_valid rules) vs))) [
            | true ↦ λ i. cond (and_right_true (here s.signers v) i) (v ∷ twice vs i) (twice vs i)
            | false ↦ λ i. cond (and-false (here s.signers v) i) (v ∷ twice vs i) (twice vs i)
          ]

  -- the certified subjects among suspects are those of suspect rounds
  pub certified_among : (ms : List (Activity S D C P G)) →
      certified_subjects (among rules s) ms ≡ filter (λ x. s.rounds (round_of x)) (certified_subjects rules ms)
  certified_among [] = refl
  certified_among (m ∷ ms) =
      elim (subject_and_certificate m) as (λ o. cons_option (if_certified (among rules s) o) (certified_subjects (among rules s)
      ms) ≡ filter (λ x. s.rounds (round_of x)) (cons_option (if_certified rules o) (certified_subjects rules ms))) [
        | None ↦ certified_among ms
        | Some c ↦ elim (rules.certified c.0
            c.1) as (λ b.
            cons_option (cond (s.rounds (round_of c.0) && b) (Some c.0) None) (certified_subjects (among rules s) ms)
            ≡ filter (λ x. s.rounds (round_of x)) (cons_option (cond b (Some c.0) None) (certified_subjects rules ms))) [
              | true ↦
                  elim (s.rounds (round_of c.0)) as (λ a. cons_option (cond (a && true) (Some c.0) None) (certified_subjects
                  (among rules s) ms) ≡ cond a (c.0 ∷ filter (λ x. s.rounds (round_of x)) (certified_subjects rules ms))
                  (filter (λ x. s.rounds (round_of x)) (certified_subjects rules ms)))
                  [ true ↦ ap (λ xs. c.0 ∷ xs) (certified_among ms) | false ↦ certified_among ms ]
              | false ↦ ap (λ a. cons_option (cond a (Some c.0) None) (certified_subjects (among rules s) ms))
                  (and-false (s.rounds (round_of c.0))) ∙ certified_among ms
            ]
      ]

  -- a round that is split is suspect
  split_is_suspect : (round : Round) → is_split rules messages round ≡ true → s.rounds round ≡ true
  split_is_suspect round h =
      let some : (xs : List ℕ) → 1 ≤ distinct_count nat_eq xs → (x : ℕ) × Contains xs x =
      elim [ [] ↦ λ e. absurd (omega (arith, e)) | ◌∷◌ x xs ↦ λ e. (x, Contains-first x xs) ] in
      let (q, q_in) = some (filter (is_accused_in rules.eq (valid_votes rules messages) round)
      (map (λ v. v.signer) (valid_votes rules messages))) (omega (arith, enough_in_split rules messages l round h)) in
      let (kind, named) = kind_from_accused_in rules.eq (valid_votes rules messages) round q
      (Contains-from_filter (is_accused_in rules.eq (valid_votes rules messages) round) _ q q_in).1 in
      (covers (record { round = round; signer = q; kind = kind }) named).1

  -- the same rounds are split
  same_splits : (round : Round) → is_split (among rules s) messages round ≡ is_split rules messages round
  same_splits round =
      let xs = certified_subjects rules messages in
      let suspect : SubjectValue D → Bool = λ x. s.rounds (round_of x) in
      from_subjects (among rules s) messages round ∙ ap (λ zs. are_split rules.eq zs round) (certified_among messages) ∙
      same_bool _ _ (split_more rules.eq (filter suspect xs) xs round (λ x x_in at. (Contains-from_filter suspect xs x x_in).0))
      (λ h. split_more rules.eq xs (filter suspect xs) round (λ x x_in at. Contains-filter suspect xs x x_in
      (ap s.rounds at ∙ split_is_suspect round (from_subjects rules messages round ∙ h))) h) ∙
      sym (from_subjects rules messages round)

  pub suspects_determine_reports : DetermineReports rules messages s
  suspects_determine_reports =
      let vs = valid_votes rules messages in
      let us = valid_votes (among rules s) messages in
      let shown = λ (n : Accusation) (h : is_accused rules.eq vs n ≡ true). (covers n h).0 in
      let names : (n : Accusation) → is_accused rules.eq us n ≡ is_accused rules.eq vs n = λ n.
      ap (λ ws. is_accused rules.eq ws n) votes_among ∙ same_accused rules.eq l.payloads vs s.signers shown n in
      let evidence : (n : Accusation) → evidence_of rules.eq us n ≡ evidence_of rules.eq vs n = λ n.
      ap (λ ws. evidence_of rules.eq ws n) votes_among ∙ same_evidence rules.eq l.payloads vs s.signers shown n in
      let split : (r : Round) → split_of (among rules s) messages r ≡ split_of rules messages r = λ r i.
      cond (same_splits r i)
      (Some (record { round = r; named = same_count rules.eq vs us names r i; least = faults_of (rules.size r.epoch) + 1 }))
      None in
      record {
        evidence = λ es. (
          moved_evidence rules.eq l.payloads vs us evidence es,
          moved_evidence rules.eq l.payloads us vs (λ n. sym (evidence n)) es,
        );
        splits = λ splits. (
          moved_splits rules (among rules s) messages messages split splits,
          moved_splits (among rules s) rules messages messages (λ r. sym (split r)) splits,
        );
      }

-- ---- claims

module _ {S D C P G : Type 0} (rules : Rules S D C P G) (l : AreLawful rules) (messages : List (Activity S D C P G)) where
  -- each accused signer is accused by the claims too
  pub accused_is_claimed : (n : Accusation) → is_accused rules.eq (valid_votes rules messages) n ≡ true →
      is_accused rules.eq (valid_votes (claimed rules) messages) n ≡ true
  accused_is_claimed n h =
      accused_by_more rules.eq (valid_votes (claimed rules) messages) (valid_votes rules messages) (λ v v_in.
      let (m, m_in, own, valid) = valid_from rules messages v v_in in
      valid_in (claimed rules) messages v m m_in own (lt-ltb _ _ (l.members v.subject v.signer v.signature valid))) n h

  -- where the signers of the claimed evidence are suspect, each accused signer is
  pub claims_are_suspect : (claims : List (Equivocation D G)) (s : Suspected) →
      IsEvidence rules.eq (valid_votes (claimed rules) messages) claims → HasSuspects claims s → AreSuspect rules messages s
  claims_are_suspect claims s is has n h =
      let (e, e_in, e_is) = Contains-from_map accused_by claims n (is.complete n (accused_is_claimed n h)) in
      let (signer, round) = has e e_in in (
        ap (λ (m : Accusation). s.signers m.round m.signer) (sym e_is) ∙ signer,
        ap (λ (m : Accusation). s.rounds m.round) (sym e_is) ∙ round,
      )

  -- where there is no claimed evidence, there is no evidence and no split
  pub nothing_claimed : (splits : List Split) → IsEvidence rules.eq (valid_votes (claimed rules) messages) [] →
      AreSplits (claimed rules) messages splits →
      IsEvidence rules.eq (valid_votes rules messages) [] × AreSplits rules messages splits
  nothing_claimed splits is are =
      let nobody : Suspected = record { signers = λ _ _. false; rounds = λ _. false } in
      let suspect : AreSuspect rules messages nobody = claims_are_suspect [] nobody is (λ e h. absurd (Contains-none e h)) in
      let no_split : (round : Round) → is_split (claimed rules) messages round ≡ true → ⊥ = λ round h.
      let o = split_opposites (claimed rules) messages round h in
      let (m, m_in, m_is) = Contains-from_filter_map (certified_in (claimed rules)) messages o.x o.x_in in
      let (c, has, certifies) = certified_parts (claimed rules) (subject_and_certificate m) o.x m_is in
      false≢true certifies in (
        record {
          ordered = is.ordered;
          sound = All-nil (λ e. evidence_of rules.eq (valid_votes rules messages) (accused_by e) ≡ Some e);
          complete = λ n h. absurd (false≢true (suspect n h).0);
        },
        record {
          ordered = are.ordered;
          sound = λ k d lt. absurd (no_split _ (sym (split_exists (claimed rules) messages _) ∙ ap is_some (are.sound k d lt)));
          complete = λ r h. absurd (false≢true (split_is_suspect rules l messages nobody suspect r h));
        },
      )

-- ---- committees that judge claims, or suspects alone

module _ {S D C P G : Type 0} (scheme : Scheme S D C P G) (schedule : Schedule S) where
  abbrev rules : Rules S D C P G
  rules = rules_of scheme schedule

  -- what is judged as `Claimed` is what the votes claim, also without a committee
  pub claims_are_claimed : rules_under scheme Claimed schedule ≡ claimed rules
  claims_are_claimed = λ i. record {
    eq = scheme.eq;
    good = λ x signer signature.
        (elim (committee_of schedule (round_of x).epoch) as (λ o.
        valid_by (valid_under scheme.keys scheme.good Claimed) o x signer signature
        ≡ nat_lt signer (size_by scheme.keys o)) [ None ↦ sym (le-ltb signer 0 (omega arith)) | Some s ↦ refl ]) i;
    certified = λ x certificate. (elim (committee_of schedule (round_of x).epoch) as (λ o.
        certified_by (certified_under scheme.certified Claimed) o x certificate ≡ false) [ None ↦ refl | Some s ↦ refl ]) i;
    listed = scheme.listed;
    size = λ epoch. size_by scheme.keys (committee_of schedule epoch);
  }

  -- the suspects that a judging has
  abbrev pub suspects_in : SuspectSigners → Suspected
  suspects_in suspects = record {
    signers = λ round signer. contains signer_cmp suspects.signers (signer_in round signer);
    rounds = contains round_cmp suspects.rounds;
  }

  -- what is judged as `Suspects` is judged among these suspects, also without a committee
  pub suspects_are_among : (suspects : SuspectSigners) →
      rules_under scheme (Suspects suspects) schedule ≡ among rules (suspects_in suspects)
  suspects_are_among suspects = λ i. record {
    eq = scheme.eq;
    good = λ x signer signature.
        (elim (committee_of schedule (round_of x).epoch) as (λ o.
        valid_by (valid_under scheme.keys scheme.good (Suspects suspects)) o x signer signature
        ≡ (contains signer_cmp suspects.signers (signer_in (round_of x) signer) && valid_by scheme.good o x signer signature))
        [ None ↦ sym (and-false (contains signer_cmp suspects.signers (signer_in (round_of x) signer))) | Some s ↦ refl ]) i;
    certified = λ x certificate.
        (elim (committee_of schedule (round_of x).epoch) as (λ o.
        certified_by (certified_under scheme.certified (Suspects suspects)) o x certificate
        ≡ (contains round_cmp suspects.rounds (round_of x) && certified_by scheme.certified o x certificate))
        [ None ↦ sym (and-false (contains round_cmp suspects.rounds (round_of x))) | Some s ↦ refl ]) i;
    listed = scheme.listed;
    size = λ epoch. size_by scheme.keys (committee_of schedule epoch);
  }

-- ---- the suspects of messages

module _ {S D C P G : Type 0} (rules : Rules S D C P G) (messages : List (Activity S D C P G)) where
  abbrev pub suspected : Suspected
  suspected = record { signers = is_suspect rules messages; rounds = is_suspect_round rules messages }

  -- a signer whom the claims accuse is suspect, and so is the round
  pub claimed_is_suspect : (n : Accusation) → is_accused rules.eq (valid_votes (claimed rules) messages) n ≡ true →
      (is_suspect rules messages n.round n.signer ≡ true) × (is_suspect_round rules messages n.round ≡ true)
  claimed_is_suspect n h =
      let vs = valid_votes (claimed rules) messages in
      let suspect = accused_in rules.eq vs n.round n.signer n.kind h in
      let (v, w, v_in, w_in, of_v, against) = votes_from_accused rules.eq vs n h in (
        suspect,
        any_from_Contains (λ v. is_suspect rules messages n.round v.signer) vs v v_in
            (ap (is_suspect rules messages n.round) (is_of-true n.round n.signer v of_v).1 ∙ suspect),
      )

  module _ (payloads : IsEquivalence rules.eq) (claims : List (Equivocation D G))
      (is : IsEvidence rules.eq (valid_votes (claimed rules) messages) claims) where
    -- the signer of a claimed evidence is suspect
    claim_is_suspect : (e : Equivocation D G) → Contains claims e →
        (is_suspect rules messages (round_of e.first.subject) e.first.signer ≡ true)
        × (is_suspect_round rules messages (round_of e.first.subject) ≡ true)
    claim_is_suspect e e_in =
        let vs = valid_votes (claimed rules) messages in
        claimed_is_suspect (accused_by e) (sym (evidence_exists rules.eq vs payloads (accused_by e))
        ∙ ap is_some (All-contains (λ e. evidence_of rules.eq vs (accused_by e) ≡ Some e) claims e is.sound e_in))

    -- the signers of the claimed evidence are the suspects
    pub signers_are_suspect : (suspect : SignerInRound) →
        Contains (map suspect_of claims) suspect ↔ IsTrue (is_suspect rules messages suspect.round suspect.signer)
    signers_are_suspect suspect = (
      λ h. let (e, e_in, e_is) = Contains-from_map suspect_of claims suspect h in
          subst (λ (s : SignerInRound). is_suspect rules messages s.round s.signer ≡ true) e_is (claim_is_suspect e e_in).0,
      λ h.
          let (kind, named) =
          kind_from_accused_in rules.eq (valid_votes (claimed rules) messages) suspect.round suspect.signer h in
          let n : Accusation = record { round = suspect.round; signer = suspect.signer; kind = kind } in
          let (e, e_in, e_is) = Contains-from_map accused_by claims n (is.complete n named) in
          subst (Contains (map suspect_of claims)) (ap (λ (n : Accusation). signer_in n.round n.signer) e_is)
          (Contains-map suspect_of claims e e_in),
    )

    -- the rounds of the claimed evidence are the suspect ones
    pub rounds_are_suspect : (round : Round) →
        Contains (map (λ e. round_of e.first.subject) claims) round ↔ IsTrue (is_suspect_round rules messages round)
    rounds_are_suspect round = (
      λ h. let (e, e_in, e_is) = Contains-from_map (λ (e : Equivocation D G). round_of e.first.subject) claims round h in
          subst (λ r. is_suspect_round rules messages r ≡ true) e_is (claim_is_suspect e e_in).1,
      λ h.
          let (v, v_in, v_accused) =
          Contains-from_list_any (λ v. is_suspect rules messages round v.signer) (valid_votes (claimed rules) messages) h in
          let suspect = signer_in round v.signer in
          let (e, e_in, e_is) = Contains-from_map suspect_of claims suspect ((signers_are_suspect suspect).1 v_accused) in
          subst (Contains (map (λ (e : Equivocation D G). round_of e.first.subject) claims))
          (ap (λ (s : SignerInRound). s.round) e_is)
          (Contains-map (λ (e : Equivocation D G). round_of e.first.subject) claims e e_in),
    )

-- rules that judge suspects alike are the same among suspects
same_among : {S D C P G : Type 0} (rules : Rules S D C P G) (messages : List (Activity S D C P G))
    (good : SubjectValue D → ℕ → G → Bool) (certified : SubjectValue D → C → Bool) → JudgeAlike rules messages good certified →
    among rules (suspected rules messages) ≡ among (judged_by rules good certified) (suspected rules messages)
same_among rules messages good certified alike = λ i. record {
  eq = rules.eq;
  good = λ x signer signature.
      (elim (is_suspect rules messages (round_of x)
      signer) as (λ a. (a ≡ true → rules.good x signer signature ≡ good x signer signature) →
      (a && rules.good x signer signature) ≡ (a && good x signer signature)) [ true ↦ λ h. h refl | false ↦ λ h. refl ])
      (λ h. sym (alike.votes x signer signature h)) i;
  certified = λ x certificate.
      (elim (is_suspect_round rules messages
      (round_of x)) as (λ a. (a ≡ true → rules.certified x certificate ≡ certified x certificate) →
      (a && rules.certified x certificate) ≡ (a && certified x certificate)) [ true ↦ λ h. h refl | false ↦ λ h. refl ])
      (λ h. sym (alike.certificates x certificate h)) i;
  listed = rules.listed;
  size = rules.size;
}

pub suspects_suffice : {S D C P G : Type 0} (rules : Rules S D C P G) → AreLawful rules →
    (messages : List (Activity S D C P G)) → SuspectsSuffice rules messages
suspects_suffice {S} {D} {C} {P} {G} rules l messages =
    let determined : (judges : Rules S D C P G) → AreLawful judges →
    DetermineReports judges messages (suspected judges messages) =
    λ judges lawful. suspects_determine_reports judges lawful messages (suspected judges messages)
    (λ n h. claimed_is_suspect judges messages n (accused_is_claimed judges lawful messages n h)) in
    record {
      evidence = λ good certified alike es is.
          ((determined (judged_by rules good certified) alike.lawful).evidence es).0
          (subst (λ judged. IsEvidence rules.eq (valid_votes judged messages) es)
          (same_among rules messages good certified alike) (((determined rules l).evidence es).1 is));
      splits = λ good certified alike splits are.
          ((determined (judged_by rules good certified) alike.lawful).splits splits).0
          (subst (λ judged. AreSplits judged messages splits) (same_among rules messages good certified alike)
          (((determined rules l).splits splits).1 are));
    }
