-- Rounds are independent: what a part of the rounds has of the votes, the evidence and the splits.
use Rattle.simplex_rules.proofs.Prelude.{Schedule, Scheme, FloorsRise, and-false, certified_by, certified_under, committee_of, first_round, in_rounds, is_from, is_lt, nat_tests, ord_max, rules_of, rules_under, size_by, valid_by, valid_under, Activity, All, All-contains, AreLawful, AreSplits, Bool, Contains, Contains-permutation, Equivocation, HaveCommittees, IsEvidence, IsPermutation, IsPermutation-sym, IsStrictlySortedBy, IsStrictlySortedBy-filter, Less, Greater, Equal, List, Accusation, None, Option, Round, Rules, SignedVote, Some, SubjectValue, [], accused_by, accused_cmp, accused_count, activity_round, and_from, and_parts, ap, append-nil, are_split, arith, certified_in, certified_subjects, cond, cons_option, eq-eqb, eqb, evidence_of, false, false≢true, filter, filter_map-append, flat_map, is_accused, is_le, is_some, is_split, is_valid, kind_rank, length, map, map-append, nat_cmp, not, not-true, ordering_then, refl, round_cmp, round_of, same_Some, split_of, subst, suc, sym, true, valid_votes, votes_in, zero, ℕ, ◌&&◌, ◌++◌, ◌<◌, ◌∙◌, ◌∷◌, ◌≡◌}
use Rattle.simplex_rules.specs.declared.judging.Judging.TheVariants.{From}
use Rattle.simplex_rules.specs.declared.split.Split.{Split}
use Rattle.std.proofs.lemmas.List.Sorted.{IsPermutation-refl}
use Rattle.std.specs.Ordering.{ordering_reverse}
use Rattle.std.specs.Prelude.{slice_get}
use Rattle.simplex_rules.specs.Independence.{AreSplitsOf, FloorParts, IsEvidenceOf, IsOfOneRound, OthersStay, PartStays, PartsAddUp, RoundsAreIndependent, evidence_within, of_rounds, splits_within}
use Rattle.simplex_rules.proofs.EvidenceLemmas.{accused-from_evidence, valid_votes-append}
use Rattle.simplex_rules.proofs.Filters.{element_at, filter-flat_map, filter_none, filter_swap, map-filter, place_of}
use Rattle.simplex_rules.proofs.Lists.{Contains-filter, Contains-flat_map, Contains-from_filter, Contains-from_flat_map, Contains-from_map, Contains-map, each, sorted_append}
use Rattle.simplex_rules.proofs.Places.{exact_rounds, round_cmp_total}
use Rattle.simplex_rules.proofs.SplitLemmas.{certified_round, from_subjects, moved_splits, same_split, split_exists}
use Rattle.simplex_rules.proofs.PartLemmas.{is_vote_of, within, accused-within, accused-from_within, same_evidence-within, evidence-within, same_count-within, split-within, split-from_within, votes_in_rounds, is_subject_of, subjects_in_rounds}
use Rattle.simplex_rules.proofs.OrderLemmas.{below_floor}

-- ---- the splits of some rounds

-- if others have the same split of each round of the part and split no other round, their splits are those of the part
splits_of_part : {S D C P G : Type 0} (rules others : Rules S D C P G) (part : Round → Bool)
    (messages ks : List (Activity S D C P G)) →
    ((round : Round) → part round ≡ true → split_of others ks round ≡ split_of rules messages round) →
    ((round : Round) → is_split others ks round ≡ true → part round ≡ true) →
    (splits : List Split) → AreSplits rules messages splits → AreSplits others ks (splits_within part splits)
splits_of_part rules others part messages ks same only splits are =
    let keys = map-filter (λ (s : Split). s.round) part splits in
    record {
      ordered = subst (IsStrictlySortedBy round_cmp) (sym keys)
          (IsStrictlySortedBy-filter round_cmp part (map (λ s. s.round) splits) are.ordered);
      sound = each _ _ (λ s s_in.
          let (s_in_all, here) = Contains-from_filter (λ (t : Split). part t.round) splits s s_in in
          same s.round here ∙ All-contains (λ s. split_of rules messages s.round ≡ Some s) splits s are.sound s_in_all);
      complete = λ round h.
          let here = only round h in
          let too : is_split rules messages round ≡ true = sym (split_exists rules messages round)
          ∙ ap is_some (sym (same round here)) ∙ split_exists others ks round ∙ h in
          subst (λ rs. Contains rs round) (sym keys) (Contains-filter part (map (λ s. s.round) splits) round
          (are.complete round too) here);
    }

-- ---- messages of some rounds alone

module _ {S D C P G : Type 0} (rules : Rules S D C P G) (part : Round → Bool) where
  -- the valid votes of the messages of the part are those of the part
  pub votes_of_rounds : (messages : List (Activity S D C P G)) → All (IsOfOneRound rules.listed) messages →
      valid_votes rules (of_rounds part messages) ≡ filter (is_vote_of part) (valid_votes rules messages)
  votes_of_rounds messages one =
      ap (filter (is_valid rules)) (filter-flat_map (votes_in rules.listed) (λ m. part (activity_round m))
      (is_vote_of part) messages (λ k d lt j e lt'. ap part (one k d lt j e lt'))) ∙
      filter_swap (is_valid rules) (is_vote_of part) (flat_map (votes_in rules.listed) messages)

  -- what they certify is what all messages certify of the part
  pub subjects_of_rounds : (messages : List (Activity S D C P G)) →
      certified_subjects rules (of_rounds part messages) ≡ filter (is_subject_of part) (certified_subjects rules messages)
  subjects_of_rounds [] = refl
  subjects_of_rounds (m ∷ messages) =
      one (part (activity_round m)) (of_rounds part messages) (certified_subjects rules messages) (subjects_of_rounds messages)
      (λ x is. ap part (sym (certified_round rules m x is)))
    where
      kept : (o : Option (SubjectValue D)) → ((x : SubjectValue D) → o ≡ Some x → part (round_of x) ≡ true) →
          (judged xs : List (SubjectValue D)) → judged ≡ filter (is_subject_of part) xs →
          cons_option o judged ≡ filter (is_subject_of part) (cons_option o xs)
      kept None h judged xs rest = rest
      kept (Some x) h judged xs rest =
          ap (λ ys. x ∷ ys) rest
          ∙ (λ i. cond (sym (h x refl) i) (x ∷ filter (is_subject_of part) xs) (filter (is_subject_of part) xs))

      left_out : (o : Option (SubjectValue D)) → ((x : SubjectValue D) → o ≡ Some x → part (round_of x) ≡ false) →
          (judged xs : List (SubjectValue D)) → judged ≡ filter (is_subject_of part) xs →
          judged ≡ filter (is_subject_of part) (cons_option o xs)
      left_out None h judged xs rest = rest
      left_out (Some x) h judged xs rest =
          rest ∙ (λ i. cond (sym (h x refl) i) (x ∷ filter (is_subject_of part) xs) (filter (is_subject_of part) xs))

      one : (b : Bool) (ks : List (Activity S D C P G)) (xs : List (SubjectValue D)) →
          certified_subjects rules ks ≡ filter (is_subject_of part) xs →
          ((x : SubjectValue D) → certified_in rules m ≡ Some x → part (round_of x) ≡ b) →
          certified_subjects rules (cond b (m ∷ ks) ks)
          ≡ filter (is_subject_of part) (cons_option (certified_in rules m) xs)
      one true ks xs rest h = kept (certified_in rules m) h (certified_subjects rules ks) xs rest
      one false ks xs rest h = left_out (certified_in rules m) h (certified_subjects rules ks) xs rest

-- ---- the law

module _ {S D C P G : Type 0} (rules : Rules S D C P G) (part : Round → Bool) (messages : List (Activity S D C P G)) where
  abbrev xs : List (SubjectValue D)
  xs = certified_subjects rules messages

  -- any messages and rules whose valid votes and certified subjects are those of the part have the same splits of its rounds
  module _ (others : Rules S D C P G) (ks : List (Activity S D C P G)) (eq : others.eq ≡ rules.eq)
      (size : others.size ≡ rules.size) (votes : valid_votes others ks ≡ filter (is_vote_of part) (valid_votes rules messages))
      (subjects : certified_subjects others ks ≡ filter (is_subject_of part) xs) where
    same_of_part : (round : Round) → part round ≡ true → split_of others ks round ≡ split_of rules messages round
    same_of_part round at =
        same_split rules others messages ks round
        ((λ i. are_split (eq i) (subjects i) round) ∙ split-within rules.eq part xs round at)
        ((λ i. accused_count (eq i) (votes i) round) ∙ same_count-within rules.eq part (valid_votes rules messages) round at)
        (λ i. size i round.epoch)

    -- and no other split
    only_of_part : (round : Round) → is_split others ks round ≡ true → part round ≡ true
    only_of_part round h =
        split-from_within rules.eq part xs round
        (sym (λ i. are_split (eq i) (subjects i) round) ∙ sym (from_subjects others ks round) ∙ h)

    splits_of_others : (splits : List Split) → AreSplits rules messages splits → AreSplits others ks (splits_within part splits)
    splits_of_others splits are = splits_of_part rules others part messages ks same_of_part only_of_part splits are

  pub split_in_rounds : (round : Round) → part round ≡ true →
      split_of (in_rounds part rules) messages round ≡ split_of rules messages round
  split_in_rounds = same_of_part (in_rounds part rules) messages refl refl (votes_in_rounds rules part messages)
      (subjects_in_rounds rules part messages)

  pub split_from_rounds : (round : Round) → is_split (in_rounds part rules) messages round ≡ true → part round ≡ true
  split_from_rounds = only_of_part (in_rounds part rules) messages refl refl (votes_in_rounds rules part messages)
      (subjects_in_rounds rules part messages)

  pub independent : RoundsAreIndependent rules messages part
  independent = record {
    evidence = λ es is. subst (λ vs. IsEvidence rules.eq vs (evidence_within part es))
        (sym (votes_in_rounds rules part messages)) (evidence-within rules.eq part (valid_votes rules messages) es is);
    splits = splits_of_others (in_rounds part rules) messages refl refl (votes_in_rounds rules part messages)
        (subjects_in_rounds rules part messages);
    evidence_alone = λ one es is. subst (λ vs. IsEvidence rules.eq vs (evidence_within part es))
        (sym (votes_of_rounds rules part messages one)) (evidence-within rules.eq part (valid_votes rules messages) es is);
    splits_alone = λ one. splits_of_others rules (of_rounds part messages) refl refl (votes_of_rounds rules part messages one)
        (subjects_of_rounds rules part messages);
  }

-- ---- the parts add up

module _ {S D C P G : Type 0} (rules : Rules S D C P G) (messages : List (Activity S D C P G)) (class : Round → ℕ) where
  -- whether a round is of a part
  abbrev is_in : ℕ → Round → Bool
  is_in i round = eqb (class round) i

  own_part : (round : Round) → is_in (class round) round ≡ true
  own_part round = eq-eqb (class round) (class round) refl

  abbrev vs : List (SignedVote D G)
  vs = valid_votes rules messages

  -- the votes of a part
  abbrev of_part : ℕ → List (SignedVote D G)
  of_part i = within rules.eq (is_in i) vs

  module _ (parts : List (List (Equivocation D G))) (whole : (round : Round) → class round < length parts)
      (each_part : (i : ℕ) (es : List (Equivocation D G)) → slice_get parts i ≡ Some es →
      IsEvidenceOf rules messages (is_in i) es)
      (all : List (Equivocation D G)) (moved : IsPermutation (flat_map (λ es. es) parts) all) where
    part_is : (i : ℕ) (es : List (Equivocation D G)) → slice_get parts i ≡ Some es → IsEvidence rules.eq (of_part i) es
    part_is i es at =
        subst (λ ws. IsEvidence rules.eq ws es) (votes_in_rounds rules (is_in i) messages) (each_part i es at)

    sound_evidence : (e : Equivocation D G) → Contains all e → evidence_of rules.eq vs (accused_by e) ≡ Some e
    sound_evidence e e_in =
        let (es, es_in, own) =
        Contains-from_flat_map (λ es. es) parts e (Contains-permutation all _ e (IsPermutation-sym _ all moved) e_in) in
        let (i, at) = place_of parts es es_in in
        let found_e = All-contains (λ e. evidence_of rules.eq (of_part i) (accused_by e) ≡ Some e) es e
        (part_is i es at).sound own in
        let accused = accused-from_evidence rules.eq (of_part i) (accused_by e) (ap is_some found_e) in
        sym (same_evidence-within rules.eq (is_in i) vs (accused_by e)
        (accused-from_within rules.eq (is_in i) vs (accused_by e) accused).0) ∙ found_e

    complete_evidence : (n : Accusation) → is_accused rules.eq vs n ≡ true → Contains (map accused_by all) n
    complete_evidence n h =
        let (es, at, es_in) = element_at parts (class n.round) (whole n.round) in
        let accused = accused-within rules.eq (is_in (class n.round)) vs n (own_part n.round) h in
        let (e, e_in, e_is) = Contains-from_map accused_by es n ((part_is (class n.round) es at).complete n accused) in
        subst (Contains (map accused_by all)) e_is (Contains-map accused_by all e
        (Contains-permutation _ all e moved (Contains-flat_map (λ es. es) parts es e es_in e_in)))

  module _ (parts : List (List Split)) (whole : (round : Round) → class round < length parts)
      (each_part : (i : ℕ) (splits : List Split) → slice_get parts i ≡ Some splits → AreSplitsOf rules messages
      (is_in i) splits)
      (all : List Split) (moved : IsPermutation (flat_map (λ splits. splits) parts) all) where
    sound_splits : (s : Split) → Contains all s → split_of rules messages s.round ≡ Some s
    sound_splits s s_in =
        let (ss, ss_in, own) =
        Contains-from_flat_map (λ splits. splits) parts s (Contains-permutation all _ s (IsPermutation-sym _ all moved) s_in) in
        let (i, at) = place_of parts ss ss_in in
        let judged = in_rounds (is_in i) rules in
        let found_s = All-contains (λ s. split_of judged messages s.round ≡ Some s) ss s (each_part i ss at).sound own in
        let is = sym (split_exists judged messages s.round) ∙ ap is_some found_s in
        sym (split_in_rounds rules (is_in i) messages s.round (split_from_rounds rules (is_in i) messages s.round is)) ∙ found_s

    complete_splits : (round : Round) → is_split rules messages round ≡ true → Contains (map (λ s. s.round) all) round
    complete_splits round h =
        let (ss, at, ss_in) = element_at parts (class round) (whole round) in
        let mine = is_in (class round) in
        let too = sym (split_exists (in_rounds mine rules) messages round)
        ∙ ap is_some (split_in_rounds rules mine messages round (own_part round)) ∙ split_exists rules messages round ∙ h in
        let (s, s_in, s_is) =
        Contains-from_map (λ (s : Split). s.round) ss round ((each_part (class round) ss at).complete round too) in
        subst (Contains (map (λ s. s.round) all)) s_is (Contains-map (λ (s : Split). s.round) all s
        (Contains-permutation _ all s moved (Contains-flat_map (λ splits. splits) parts ss s ss_in s_in)))

  pub parts_add_up : PartsAddUp rules messages class
  parts_add_up = record {
    evidence = λ parts whole each_part all moved sorted. record {
      ordered = sorted;
      sound = each _ all (sound_evidence parts whole each_part all moved);
      complete = complete_evidence parts whole each_part all moved;
    };
    splits = λ parts whole each_part all moved sorted. record {
      ordered = sorted;
      sound = each _ all (sound_splits parts whole each_part all moved);
      complete = complete_splits parts whole each_part all moved;
    };
  }

-- ---- below a floor, and from it on

module _ {S D C P G : Type 0} (rules : Rules S D C P G) (messages : List (Activity S D C P G)) where
  -- evidence of a part accuses in its rounds
  evidence_is_within : (part : Round → Bool) (es : List (Equivocation D G)) → IsEvidenceOf rules messages part es →
      (n : Accusation) → Contains (map accused_by es) n → part n.round ≡ true
  evidence_is_within part es is n n_in =
      let vs = valid_votes (in_rounds part rules) messages in
      let (e, e_in, e_is) = Contains-from_map accused_by es n n_in in
      let found_e = All-contains (λ e. evidence_of rules.eq vs (accused_by e) ≡ Some e) es e is.sound e_in in
      let accused = accused-from_evidence rules.eq vs (accused_by e) (ap is_some found_e) in
      let too = subst (λ ws. is_accused rules.eq ws (accused_by e) ≡ true) (votes_in_rounds rules part messages) accused in
      sym (ap (λ (m : Accusation). part m.round) e_is)
      ∙ (accused-from_within rules.eq part (valid_votes rules messages) (accused_by e) too).0

  -- splits of a part are of its rounds
  splits_are_within : (part : Round → Bool) (splits : List Split) → AreSplitsOf rules messages part splits →
      (round : Round) → Contains (map (λ s. s.round) splits) round → part round ≡ true
  splits_are_within part splits are round r_in =
      let (s, s_in, s_is) = Contains-from_map (λ (s : Split). s.round) splits round r_in in
      let found_s = All-contains (λ s. split_of (in_rounds part rules) messages s.round ≡ Some s) splits s are.sound s_in in
      sym (ap part s_is) ∙ split_from_rounds rules part messages s.round
      (sym (split_exists (in_rounds part rules) messages s.round) ∙ ap is_some found_s)

  module _ (floor : Round) where
    -- below the floor is the first part, and from it on the second
    abbrev side : Round → ℕ
    side round = cond (is_from floor round) 1 0

    is_below : (round : Round) → eqb (side round) 0 ≡ not (is_from floor round)
    is_below round = elim (is_from floor round) as (λ b. eqb (cond b 1 0) 0 ≡ not b) [ true ↦ refl | false ↦ refl ]

    is_above : (round : Round) → eqb (side round) 1 ≡ is_from floor round
    is_above round = elim (is_from floor round) as (λ b. eqb (cond b 1 0) 1 ≡ b) [ true ↦ refl | false ↦ refl ]

    two_sides : (round : Round) → side round < 2
    two_sides round = elim (is_from floor round) as (λ b. cond b 1 0 < 2) [ true ↦ omega arith | false ↦ omega arith ]

    -- what holds of the first of two lists by the first side, and of the second by the second
    each_side : {X : Type 0} (Holds : (Round → Bool) → List X → Type 0) (below above : List X) →
        Holds (λ round. not (is_from floor round)) below → Holds (is_from floor) above → (i : ℕ) (xs : List X) →
        slice_get (below ∷ above ∷ []) i ≡ Some xs → Holds (λ round. eqb (side round) i) xs
    each_side Holds below above low high zero xs at = subst (Holds (λ round. eqb (side round) 0)) (same_Some below xs at)
        (subst (λ part. Holds part below) (λ i round. sym (is_below round) i) low)
    each_side Holds below above low high (suc zero) xs at = subst (Holds (λ round. eqb (side round) 1)) (same_Some above xs at)
        (subst (λ part. Holds part above) (λ i round. sym (is_above round) i) high)
    each_side Holds below above low high (suc (suc i)) xs at = absurd cc

    joined : {X : Type 0} (below above : List X) → IsPermutation (flat_map (λ part. part) (below ∷ above ∷ [])) (below ++ above)
    joined below above = subst (λ xs. IsPermutation xs (below ++ above)) (ap (λ xs. below ++ xs) (sym (append-nil above)))
        (IsPermutation-refl (below ++ above))

    not_below : (round : Round) → not (is_from floor round) ≡ true → is_from floor round ≡ false
    not_below round h = not-true (is_from floor round) h

    pub floor_parts : FloorParts rules messages floor
    floor_parts = record {
      evidence = λ below above low high.
          (parts_add_up rules messages side).evidence (below ∷ above ∷ []) two_sides
          (each_side (IsEvidenceOf rules messages) below above low high) (below ++ above) (joined below above)
          (subst (IsStrictlySortedBy accused_cmp) (sym (map-append accused_by below above))
          (sorted_append accused_cmp (map accused_by below) (map accused_by above) low.ordered high.ordered
          (λ n m n_in m_in.
          let less = below_floor floor n.round m.round
          (not_below n.round (evidence_is_within (λ round. not (is_from floor round)) below low n n_in))
          (evidence_is_within (is_from floor) above high m m_in) in
          ap (λ o. ordering_then (ordering_then o (nat_cmp n.signer m.signer))
          (nat_cmp (kind_rank n.kind) (kind_rank m.kind))) less)));
      splits = λ below above low high.
          (parts_add_up rules messages side).splits (below ∷ above ∷ []) two_sides
          (each_side (AreSplitsOf rules messages) below above low high) (below ++ above) (joined below above)
          (subst (IsStrictlySortedBy round_cmp) (sym (map-append (λ (s : Split). s.round) below above))
          (sorted_append round_cmp (map (λ s. s.round) below) (map (λ s. s.round) above) low.ordered high.ordered
          (λ a b a_in b_in.
          below_floor floor a b (not_below a (splits_are_within (λ round. not (is_from floor round)) below low a a_in))
          (splits_are_within (is_from floor) above high b b_in))));
    }

-- ---- further messages of other rounds

module _ {S D C P G : Type 0} (rules : Rules S D C P G) (part : Round → Bool) (messages more : List (Activity S D C P G)) where
  abbrev judged : Rules S D C P G
  judged = in_rounds part rules

  module _ (one : All (IsOfOneRound rules.listed) more) (other : All (λ m. part (activity_round m) ≡ false) more) where
    none_left : of_rounds part more ≡ []
    none_left = filter_none (λ m. part (activity_round m)) more other

    no_votes : valid_votes judged more ≡ []
    no_votes =
        votes_in_rounds rules part more ∙ sym (votes_of_rounds rules part more one) ∙ ap (valid_votes rules) none_left

    no_subjects : certified_subjects judged more ≡ []
    no_subjects =
        subjects_in_rounds rules part more ∙ sym (subjects_of_rounds rules part more) ∙ ap (certified_subjects rules) none_left

    same_votes : valid_votes judged (messages ++ more) ≡ valid_votes judged messages
    same_votes =
        valid_votes-append judged messages more ∙ ap (λ vs. valid_votes judged messages ++ vs) no_votes
        ∙ append-nil (valid_votes judged messages)

    same_subjects : certified_subjects judged (messages ++ more) ≡ certified_subjects judged messages
    same_subjects =
        filter_map-append (certified_in judged) messages more ∙ ap (λ xs. certified_subjects judged messages ++ xs) no_subjects
        ∙ append-nil (certified_subjects judged messages)

    same_split_of : (round : Round) → split_of judged messages round ≡ split_of judged (messages ++ more) round
    same_split_of round =
        same_split judged judged (messages ++ more) messages round
        (ap (λ xs. are_split rules.eq xs round) (sym same_subjects))
        (ap (λ vs. accused_count rules.eq vs round) (sym same_votes)) refl

    -- so the split of a round of the part stays
    pub split_of_others : (round : Round) → part round ≡ true →
        split_of rules (messages ++ more) round ≡ split_of rules messages round
    split_of_others round at =
        sym (split_in_rounds rules part (messages ++ more) round at) ∙ sym (same_split_of round)
        ∙ split_in_rounds rules part messages round at

    part_stays : PartStays rules part messages more
    part_stays = record {
      votes = same_votes;
      evidence = λ es is. subst (λ vs. IsEvidence rules.eq vs es) (sym same_votes) is;
      splits = λ splits are. moved_splits judged judged (messages ++ more) messages same_split_of splits are;
    }

  pub others_stay : OthersStay rules part messages more
  others_stay = part_stays

-- ---- the rules of a part

-- the rules of a part are lawful if the rules are
pub lawful_in_rounds : {S D C P G : Type 0} (rules : Rules S D C P G) (part : Round → Bool) → AreLawful rules →
    AreLawful (in_rounds part rules)
lawful_in_rounds rules part l = record {
  payloads = l.payloads;
  members = λ x signer signature h.
      l.members x signer signature (and_parts (part (round_of x)) (rules.good x signer signature) h).1;
  someone = λ x c h. l.someone x c (and_parts (part (round_of x)) (rules.certified x c) h).1;
  quorums = λ x c h.
      let (here, certifies) = and_parts (part (round_of x)) (rules.certified x c) h in
      let q = l.quorums x c certifies in
      record {
        distinct = q.distinct;
        enough = q.enough;
        each_good = λ k d lt. and_from (part (round_of x)) (rules.good x _ _) here (q.each_good k d lt);
      };
}

-- so is that every valid vote and every certified subject has a committee
pub committees_in_rounds : {S D C P G : Type 0} (rules : Rules S D C P G) (part : Round → Bool) → HaveCommittees rules →
    HaveCommittees (in_rounds part rules)
committees_in_rounds rules part l = record {
  members = λ x signer signature h.
      l.members x signer signature (and_parts (part (round_of x)) (rules.good x signer signature) h).1;
  someone = λ x c h. l.someone x c (and_parts (part (round_of x)) (rules.certified x c) h).1;
}

-- ---- floors

-- judging in a part of a part is judging in the rounds of both
both_parts : {S D C P G : Type 0} (rules : Rules S D C P G) (wide narrow part : Round → Bool) →
    ((round : Round) → (narrow round && wide round) ≡ part round) →
    in_rounds narrow (in_rounds wide rules) ≡ in_rounds part rules
both_parts rules wide narrow part same =
    let each_round : (round : Round) (b : Bool) → (narrow round && (wide round && b)) ≡ (part round && b) =
    λ round b. (elim (narrow round) as (λ n. (n && wide round) ≡ part round → (n && (wide round && b)) ≡ (part round && b))
    [ true ↦ λ h i. h i && b | false ↦ λ h i. h i && b ]) (same round) in
    λ i. record {
      eq = rules.eq;
      good = λ x signer signature. each_round (round_of x) (rules.good x signer signature) i;
      certified = λ x c. each_round (round_of x) (rules.certified x c) i;
      listed = rules.listed;
      size = rules.size;
    }

-- a part that is all rounds changes nothing
all_rounds : {S D C P G : Type 0} (rules : Rules S D C P G) (part : Round → Bool) →
    ((round : Round) → part round ≡ true) → in_rounds part rules ≡ rules
all_rounds rules part all = λ i. record {
  eq = rules.eq;
  good = λ x signer signature. all (round_of x) i && rules.good x signer signature;
  certified = λ x c. all (round_of x) i && rules.certified x c;
  listed = rules.listed;
  size = rules.size;
}

-- no round is below the first
from_first : (round : Round) → is_from first_round round ≡ true
from_first round =
    let least : (n : ℕ) → is_le (nat_cmp 0 n) ≡ true = λ n. grind (arith, nat_tests) in
    (elim (nat_cmp 0 round.epoch)
    as (λ o. is_le o ≡ true → is_le (ordering_then o (nat_cmp 0 round.view)) ≡ true)
    [ Less ↦ λ h. refl | Equal ↦ λ h. least round.view | Greater ↦ λ h. absurd (false≢true h) ]) (least round.epoch)

-- a round is from both floors on if it is from the higher on
from_both : (low high round : Round) →
    (is_from high round && is_from low round) ≡ is_from (ord_max round_cmp low high) round
from_both low high round =
    (elim (round_cmp high low) as (λ o. round_cmp high low ≡ o →
    (is_from high round && is_from low round) ≡ is_from (cond (is_lt o) low high) round) [
      | Less ↦ λ e. from_lower high low e
      | Equal ↦ λ e. subst (λ r. (is_from high round && is_from r round) ≡ is_from high round) (exact_rounds high low e)
          (same_both (is_from high round))
      | Greater ↦ λ e. and_swap (is_from high round) (is_from low round)
          ∙ from_lower low high (round_cmp_total.antisymm low high ∙ ap ordering_reverse e)
    ]) refl
  where
    same_both : (b : Bool) → (b && b) ≡ b
    same_both true = refl
    same_both false = refl

    and_swap : (a b : Bool) → (a && b) ≡ (b && a)
    and_swap true true = refl
    and_swap true false = refl
    and_swap false true = refl
    and_swap false false = refl

    -- what is from the higher floor on is from the lower on
    from_lower : (a b : Round) → round_cmp a b ≡ Less → (is_from a round && is_from b round) ≡ is_from b round
    from_lower a b less =
        (elim (is_from b round) as (λ q. is_from b round ≡ q → (is_from a round && q) ≡ q) [
          | true ↦ λ e. (elim (round_cmp b round) as (λ o. round_cmp b round ≡ o → is_le o ≡ true →
              (is_from a round && true) ≡ true) [
                | Less ↦ λ k h. ap (λ o. is_le o && true) (round_cmp_total.trans a b round less k)
                | Equal ↦ λ k h. subst (λ r. (is_from a r && true) ≡ true) (exact_rounds b round k)
                    (ap (λ o. is_le o && true) less)
                | Greater ↦ λ k h. absurd (false≢true h)
              ]) refl e
          | false ↦ λ e. and-false (is_from a round)
        ]) refl

pub floors_rise : {S D C P G : Type 0} (rules : Rules S D C P G) → FloorsRise rules
floors_rise rules = record {
  first = all_rounds rules (is_from first_round) from_first;
  higher = λ low high. both_parts rules (is_from low) (is_from high) (is_from (ord_max round_cmp low high))
      (from_both low high);
}

-- what is judged as `From` a floor is judged in the rounds from it on, also without a committee
pub judged_from : {S D C P G : Type 0} (scheme : Scheme S D C P G) (schedule : Schedule S) (floor : Round) →
    rules_under scheme (From floor) schedule ≡ in_rounds (is_from floor) (rules_of scheme schedule)
judged_from scheme schedule floor = λ i. record {
  eq = scheme.eq;
  good = λ x signer signature.
      (elim (committee_of schedule (round_of x).epoch) as (λ o.
      valid_by (valid_under scheme.keys scheme.good (From floor)) o x signer signature
      ≡ (is_from floor (round_of x) && valid_by scheme.good o x signer signature))
      [ None ↦ sym (and-false (is_from floor (round_of x))) | Some s ↦ refl ]) i;
  certified = λ x c.
      (elim (committee_of schedule (round_of x).epoch) as (λ o.
      certified_by (certified_under scheme.certified (From floor)) o x c
      ≡ (is_from floor (round_of x) && certified_by scheme.certified o x c))
      [ None ↦ sym (and-false (is_from floor (round_of x))) | Some s ↦ refl ]) i;
  listed = scheme.listed;
  size = λ epoch. size_by scheme.keys (committee_of schedule epoch);
}
