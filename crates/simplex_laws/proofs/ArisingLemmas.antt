-- The splits that arise in a part of the rounds.
use Rattle.simplex_rules.proofs.Prelude.{Activity, Bool, List, None, Option, Round, Rules, Some, [], activity_round, ap, cond, false, false≢true, false_from_ne_true, filter, filter-append, in_rounds, is_some, is_split, refl, split_of, sym, true, ℕ, ◌++◌, ◌∙◌, ◌∷◌, ◌≡◌}
use Rattle.simplex_rules.specs.declared.split.Split.{Split}
use Rattle.simplex_laws.proofs.IndependenceLemmas.{split_from_rounds, split_in_rounds}
use Rattle.simplex_rules.proofs.SplitLemmas.{split_exists, split_own}
use Rattle.simplex_rules.specs.Arising.{accused_of, is_known, split_arising, splits_arising, unless_known}

-- nothing is there
pub none_from : {X : Type 0} (o : Option X) → is_some o ≡ false → o ≡ None
none_from None h = refl
none_from (Some x) h = absurd (false≢true (sym h))

module _ {S D C P G : Type 0} (rules : Rules S D C P G) (part : Round → Bool) where
  abbrev judged : Rules S D C P G
  judged = in_rounds part rules

  abbrev kept : Split → Bool
  kept split = part split.round

  -- no other round has a split
  pub none_away : (messages : List (Activity S D C P G)) (round : Round) → part round ≡ false →
      split_of judged messages round ≡ None
  none_away messages round away = none_from (split_of judged messages round) (split_exists judged messages round
      ∙ false_from_ne_true (is_split judged messages round)
      (λ h. false≢true (sym away ∙ split_from_rounds rules part messages round h)))

  -- a split that arises is of the message's round
  kept_one : (b : Bool) (before : Option ℕ) (found : Option Split) → ((s : Split) → found ≡ Some s → kept s ≡ b) →
      filter kept (unless_known before found) ≡ cond b (unless_known before found) []
  kept_one true before None own = refl
  kept_one false before None own = refl
  kept_one b before (Some split) own = go (is_known before split.named)
    where
      nothing : (c : Bool) → filter kept [] ≡ cond c [] []
      nothing true = refl
      nothing false = refl

      go : (k : Bool) → filter kept (cond k [] (split ∷ [])) ≡ cond b (cond k [] (split ∷ [])) []
      go true = nothing b
      go false = ap (λ c. cond c (split ∷ []) []) (own split refl)

  arising_one : (before : List (Activity S D C P G)) (m : Activity S D C P G) →
      split_arising judged before m ≡ filter kept (split_arising rules before m)
  arising_one before m =
      let here = activity_round m in
      let later = before ++ m ∷ [] in
      let own : (s : Split) → split_of rules later here ≡ Some s → kept s ≡ part here =
      λ s is. ap part (split_own rules later here s is) in
      (elim (part here) as (λ b. part here ≡ b → split_arising judged before m ≡ filter kept (split_arising rules before m)) [
        | true ↦ λ at. (λ i. unless_known (accused_of (split_in_rounds rules part before here at i))
            (split_in_rounds rules part later here at i))
            ∙ sym (kept_one true (accused_of (split_of rules before here)) (split_of rules later here) (λ s is. own s is ∙ at))
        | false ↦ λ away. ap (unless_known (accused_of (split_of judged before here))) (none_away later here away)
            ∙ sym (kept_one false (accused_of (split_of rules before here)) (split_of rules later here)
            (λ s is. own s is ∙ away))
      ]) refl

  -- so the splits that arise in the part are those that are of the part
  pub arising_part : (before ms : List (Activity S D C P G)) →
      splits_arising judged before ms ≡ filter kept (splits_arising rules before ms)
  arising_part before [] = refl
  arising_part before (m ∷ ms) =
      (λ i. arising_one before m i ++ arising_part (before ++ m ∷ []) ms i)
      ∙ sym (filter-append kept (split_arising rules before m) (splits_arising rules (before ++ m ∷ []) ms))
