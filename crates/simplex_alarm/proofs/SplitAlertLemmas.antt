-- Splits that arise message by message.
use Rattle.std.specs.BTreeMap.{get}
use Rattle.simplex_rules.proofs.Prelude.{Activity, All-cons, All-nil, Bool, Contains, Contains-append_left, IsEquivalence, List, None, Option, Round, Rules, Some, [], activity_round, ap, append-nil, append_assoc, certified_in, certified_subjects, cond, eq-eqb, false, false≢true, false_from_ne_true, filter, filter-append, filter_map-append, in_rounds, is_eq, is_some, is_split, message_is_news, refl, round_cmp, same_round, split_of, subst, sym, true, ◌++◌, ◌∙◌, ◌∷◌, ◌≡◌}
use Rattle.simplex_rules.specs.declared.split.Split.{Split}
use Rattle.simplex_alarm.proofs.AlertLemmas.{equal_from}
use Rattle.simplex_laws.proofs.IndependenceLemmas.{split_in_rounds, split_of_others}
use Rattle.simplex_laws.proofs.InterchangeLemmas.{same_split_of}
use Rattle.simplex_laws.proofs.NewsLemmas.{news_changes_state}
use Rattle.simplex_rules.proofs.Places.{exact_rounds, same_round-from, same_round-true}
use Rattle.simplex_rules.proofs.SplitLemmas.{from_subjects, split_exists, split_more, split_own}
use Rattle.simplex_rules.specs.Independence.{IsOfOneRound, splits_within}
use Rattle.simplex_alarm.specs.SplitAlerts.{AddsSplit, TellsSplits, TellsUntoldSplits}
use Rattle.simplex_rules.specs.Arising.{accused_of, is_known, split_arising, splits_arising, unless_known}
use Rattle.simplex_alarm.specs.declared.split_alerts.SplitAlerts.{SplitAlerts}
use Rattle.simplex_laws.proofs.ArisingLemmas.{none_from, none_away, arising_part}

-- the splits that arise in messages and in one message more, behind any messages
arising_next : {S D C P G : Type 0} (rules : Rules S D C P G) (before ms : List (Activity S D C P G)) (m : Activity S D C P G) →
    splits_arising rules before (ms ++ m ∷ []) ≡ splits_arising rules before ms ++ split_arising rules (before ++ ms) m
arising_next rules before [] m =
    append-nil (split_arising rules before m) ∙ ap (λ ks. split_arising rules ks m) (sym (append-nil before))
arising_next rules before (k ∷ ms) m =
    let first = split_arising rules before k in
    let rest = splits_arising rules (before ++ k ∷ []) ms in
    ap (λ ks. first ++ ks) (arising_next rules (before ++ k ∷ []) ms m
    ∙ ap (λ ks. rest ++ split_arising rules ks m) (append_assoc before (k ∷ []) ms))
    ∙ sym (append_assoc first rest (split_arising rules (before ++ k ∷ ms) m))

-- ---- one message more

module _ {S D C P G : Type 0} (rules : Rules S D C P G) (messages : List (Activity S D C P G)) (m : Activity S D C P G) where
  abbrev later : List (Activity S D C P G)
  later = messages ++ m ∷ []

  abbrev here : Round
  here = activity_round m

  -- a split round stays split
  still_split : (round : Round) → is_split rules messages round ≡ true → is_split rules later round ≡ true
  still_split round h =
      from_subjects rules later round
      ∙ split_more rules.eq (certified_subjects rules messages) (certified_subjects rules later) round
      (λ x x_in x_here. subst (λ xs. Contains xs x) (sym (filter_map-append (certified_in rules) messages (m ∷ [])))
      (Contains-append_left (certified_subjects rules messages) (certified_subjects rules (m ∷ [])) x x_in))
      (sym (from_subjects rules messages round) ∙ h)

  -- so a round without a split had none before
  none_before : split_of rules later here ≡ None → split_of rules messages here ≡ None
  none_before none = none_from (split_of rules messages here) (split_exists rules messages here
      ∙ false_from_ne_true (is_split rules messages here) (λ h. false≢true (ap is_some (sym none)
      ∙ split_exists rules later here ∙ still_split here h)))

  -- the splits of other rounds stay
  others_stay : IsOfOneRound rules.listed m → (round : Round) → same_round here round ≡ false →
      split_of rules later round ≡ split_of rules messages round
  others_stay one round away =
      split_of_others rules (λ r. same_round r round) messages (m ∷ [])
      (All-cons (IsOfOneRound rules.listed) m [] one (All-nil _))
      (All-cons (λ (k : Activity S D C P G). same_round (activity_round k) round ≡ false) m [] away (All-nil _)) round
      (same_round-from round round refl)

  -- what holds of the message's round, and of all others, holds of each
  each_round : (Holds : Round → Type 0) → Holds here → ((round : Round) → same_round here round ≡ false → Holds round) →
      (round : Round) → Holds round
  each_round Holds own others round = (elim (same_round here round) as (λ b. same_round here round ≡ b → Holds round) [
    | true ↦ λ at. subst Holds (same_round-true here round at) own
    | false ↦ λ away. others round away
  ]) refl

  -- the message's round has no split
  pub no_split_more : IsOfOneRound rules.listed m → split_of rules later here ≡ None → (told : List Split)
      (alerts : SplitAlerts) →
      TellsSplits rules messages told alerts → TellsSplits rules later told alerts
  no_split_more one none told alerts tells = record {
    counts = each_round (λ round. get round_cmp alerts.accused round ≡ accused_of (split_of rules later round))
        (tells.counts here ∙ ap accused_of (none_before none ∙ sym none))
        (λ round away. tells.counts round ∙ ap accused_of (sym (others_stay one round away)));
    all = tells.all ∙ sym (arising_next rules [] messages m
        ∙ ap (λ found. splits_arising rules [] messages ++ unless_known (accused_of (split_of rules messages here)) found) none
        ∙ append-nil (splits_arising rules [] messages));
  }

  -- the message's round has a split
  pub split_more_told : IsOfOneRound rules.listed m → (split : Split) → split_of rules later here ≡ Some split →
      (told : List Split) (old new : SplitAlerts) → AddsSplit split old new →
      TellsSplits rules messages told old → TellsSplits rules later told new
  split_more_told one split found told old new adds tells =
      let own : split.round ≡ here = split_own rules later here split found in
      let known : get round_cmp old.accused split.round ≡ accused_of (split_of rules messages here) =
      ap (get round_cmp old.accused) own ∙ tells.counts here in
      record {
        counts = each_round (λ round. get round_cmp new.accused round ≡ accused_of (split_of rules later round))
            (ap (get round_cmp new.accused) (sym own) ∙ adds.here ∙ ap accused_of (sym found))
            (λ round away. adds.others round (λ e. false≢true (sym away ∙ same_round-from here round (sym own ∙ sym e)))
            ∙ tells.counts round ∙ ap accused_of (sym (others_stay one round away)));
        all = ap (λ us. told ++ us) (adds.untold ∙ ap (λ k. old.untold.items ++ unless_known k (Some split)) known)
            ∙ sym (append_assoc told old.untold.items (unless_known (accused_of (split_of rules messages here)) (Some split)))
            ∙ ap (λ us. us ++ unless_known (accused_of (split_of rules messages here)) (Some split)) tells.all
            ∙ sym (arising_next rules [] messages m ∙ ap (λ o. splits_arising rules [] messages
            ++ unless_known (accused_of (split_of rules messages here)) o) found);
      }

  -- the message is no news
  pub splits_same : IsEquivalence rules.eq → message_is_news rules messages m ≡ false → (told : List Split)
      (alerts : SplitAlerts) → TellsSplits rules messages told alerts → TellsSplits rules later told alerts
  splits_same l none told alerts tells =
      let state = (news_changes_state rules l messages m).0 none in
      let same : (round : Round) → split_of rules later round ≡ split_of rules messages round =
      same_split_of rules l later messages state in
      record {
        counts = λ round. tells.counts round ∙ ap accused_of (sym (same round));
        all = tells.all ∙ sym (arising_next rules [] messages m
            ∙ ap (λ found. splits_arising rules [] messages ++ unless_known (accused_of (split_of rules messages here)) found)
            (same here)
            ∙ ap (λ more. splits_arising rules [] messages ++ more) (nothing_new (split_of rules messages here))
            ∙ append-nil (splits_arising rules [] messages));
      }
    where
      nothing_new : (o : Option Split) → unless_known (accused_of o) o ≡ []
      nothing_new None = refl
      nothing_new (Some split) = ap (λ b. cond b [] (split ∷ [])) (eq-eqb split.named split.named refl)

-- ---- a floor

module _ {S D C P G : Type 0} (rules : Rules S D C P G) (part : Round → Bool) where
  abbrev judged : Rules S D C P G
  judged = in_rounds part rules

  abbrev kept : Split → Bool
  kept split = part split.round

  -- the counts and the untold splits of a part are those of the part's rules
  pub splits_part : (messages : List (Activity S D C P G)) (told : List Split) (old new : SplitAlerts) →
      ((round : Round) → get round_cmp new.accused round ≡ cond (part round) (get round_cmp old.accused round) None) →
      new.untold.items ≡ filter kept old.untold.items → TellsSplits rules messages told old →
      TellsSplits judged messages (splits_within part told) new
  splits_part messages told old new counted left tells = record {
    counts = λ round. counted round ∙ (elim (part round) as (λ b. part round ≡ b →
        cond b (get round_cmp old.accused round) None ≡ accused_of (split_of judged messages round)) [
          | true ↦ λ at. tells.counts round ∙ ap accused_of (sym (split_in_rounds rules part messages round at))
          | false ↦ λ away. ap accused_of (sym (none_away rules part messages round away))
        ]) refl;
    all = ap (λ us. filter kept told ++ us) left ∙ sym (filter-append kept told old.untold.items)
        ∙ ap (filter kept) tells.all ∙ sym (arising_part rules part [] messages);
  }

-- ---- the counts

-- a count that replaces another of its round is added, and its split is untold unless the other was the same
pub adds_one : (split : Split) (old new : SplitAlerts) → get round_cmp new.accused split.round ≡ Some split.named →
    ((round : Round) → is_eq (round_cmp split.round round) ≡ false →
    get round_cmp new.accused round ≡ get round_cmp old.accused round) →
    new.untold.items ≡ old.untold.items ++ cond (is_known (get round_cmp old.accused split.round) split.named) [] (split ∷ []) →
    AddsSplit split old new
adds_one split old new own others left = record {
  here = own;
  others = λ round ne. others round (false_from_ne_true (is_eq (round_cmp split.round round))
      (λ at. ne (sym (exact_rounds split.round round (equal_from (round_cmp split.round round) at)))));
  untold = left;
}

-- what was untold is told
pub splits_taken : {S D C P G : Type 0} (rules : Rules S D C P G) (messages : List (Activity S D C P G))
    (told taken : List Split)
    (old new : SplitAlerts) → TellsUntoldSplits taken old new → TellsSplits rules messages told old →
    TellsSplits rules messages (told ++ taken) new
splits_taken rules messages told taken old new takes tells = record {
  counts = λ round. ap (λ accused. get round_cmp accused round) takes.counts ∙ tells.counts round;
  all = ap (λ us. (told ++ taken) ++ us) takes.none_left ∙ append-nil (told ++ taken)
      ∙ ap (λ us. told ++ us) takes.taken_is ∙ tells.all;
}
