-- What a part of the rounds has of the votes and of the certified subjects.
use Rattle.simplex_rules.proofs.Prelude.{in_rounds, Activity, All-contains, Bool, Conflicting_finalize, Conflicting_notarize, Contains, Equivocation, EquivocationKind, IsEvidence, IsStrictlySortedBy, IsStrictlySortedBy-filter, List, Accusation, None, Nullify_finalize, Option, Round, Rules, SignedVote, Some, SubjectValue, [], accused_by, accused_cmp, accused_count, and_parts, ap, are_split, certified_subjects, clash, cond, cons_option, contradicts, evidence_of, false, filter, find, first_kind, flat_map, if_certified, is_accused, is_accused_in, is_at, is_of, is_valid, map, refl, round_of, subject_and_certificate, subst, sym, true, valid_votes, votes_in, with_first, with_second, ℕ, ◌&&◌, ◌||◌, ◌∙◌, ◌∷◌, ◌≡◌}
use Rattle.simplex_rules.specs.Independence.{evidence_within}
use Rattle.simplex_rules.proofs.AccountLemmas.{counted_signer, distinct_count-same}
use Rattle.simplex_rules.proofs.EvidenceLemmas.{accused_by_more, accused_from_votes, first_spot, votes_from_accused}
use Rattle.simplex_rules.proofs.Filters.{filter_both, find_filtered, map-filter}
use Rattle.simplex_rules.proofs.Lists.{Contains-filter, Contains-from_filter, each, found, same_bool}
use Rattle.simplex_rules.proofs.Places.{is_at-true, is_of-true}
use Rattle.simplex_rules.proofs.SplitLemmas.{opposites, split_more}

-- ---- votes of some rounds

-- whether a vote is of the part
abbrev pub is_vote_of : {D G : Type 0} → (Round → Bool) → SignedVote D G → Bool
is_vote_of part v = part (round_of v.subject)

-- a vote that contradicts another is of its round
round_against : {D G : Type 0} (eq : D → D → Bool) (kind : EquivocationKind) (v w : SignedVote D G) →
    contradicts eq kind v w ≡ true → round_of w.subject ≡ round_of v.subject
round_against eq kind v w h =
    (is_of-true (round_of v.subject) v.signer w
    (and_parts (is_of (round_of v.subject) v.signer w) (clash eq kind v.subject w.subject) h).0).0

module _ {D G : Type 0} (eq : D → D → Bool) (part : Round → Bool) (vs : List (SignedVote D G)) where
  -- the votes of the part
  abbrev pub within : List (SignedVote D G)
  within = filter (is_vote_of part) vs

  -- whom all votes accuse in a round of the part, its votes accuse
  pub accused-within : (n : Accusation) → part n.round ≡ true → is_accused eq vs n ≡ true → is_accused eq within n ≡ true
  accused-within n here h =
      let (v, w, v_in, w_in, of_v, against) = votes_from_accused eq vs n h in
      let v_here : part (round_of v.subject) ≡ true = ap part (is_of-true n.round n.signer v of_v).0 ∙ here in
      let w_here : part (round_of w.subject) ≡ true = ap part (round_against eq n.kind v w against) ∙ v_here in
      accused_from_votes eq within n v w (Contains-filter (is_vote_of part) vs v v_in v_here)
      (Contains-filter (is_vote_of part) vs w w_in w_here) of_v against

  -- they accuse nobody else
  pub accused-from_within : (n : Accusation) → is_accused eq within n ≡ true →
      (part n.round ≡ true) × (is_accused eq vs n ≡ true)
  accused-from_within n h =
      let (v, w, v_in, w_in, of_v, against) = votes_from_accused eq within n h in (
        sym (ap part (is_of-true n.round n.signer v of_v).0) ∙ (Contains-from_filter (is_vote_of part) vs v v_in).1,
        accused_by_more eq vs within (λ u u_in. (Contains-from_filter (is_vote_of part) vs u u_in).0) n h,
      )

  -- in a round of the part they accuse whom all votes accuse
  pub same_accused-within : (n : Accusation) → part n.round ≡ true → is_accused eq within n ≡ is_accused eq vs n
  same_accused-within n here = same_bool _ _ (λ h. (accused-from_within n h).1) (accused-within n here)

  -- with the same evidence
  pub same_evidence-within : (n : Accusation) → part n.round ≡ true → evidence_of eq within n ≡ evidence_of eq vs n
  same_evidence-within n here =
      let at : SignedVote D G → Bool = is_at (first_kind n.kind) n.round n.signer in
      let v_here : (v : SignedVote D G) → at v ≡ true → part (round_of v.subject) ≡ true =
      λ v v_at. (λ i. part (is_at-true (first_spot n) v v_at i).round) ∙ here in
      ap (with_first eq within n.kind) (find_filtered at (is_vote_of part) v_here vs) ∙
      (elim (find at vs) as (λ o. find at vs ≡ o → with_first eq within n.kind o ≡ with_first eq vs n.kind o) [
        | None ↦ λ e. refl
        | Some v ↦ λ e. ap (with_second n.kind v) (find_filtered (contradicts eq n.kind v) (is_vote_of part)
            (λ w c. ap part (round_against eq n.kind v w c) ∙ v_here v (found at vs v e).1) vs)
      ]) refl

  -- so the evidence of the part is that of all votes in its rounds
  pub evidence-within : (es : List (Equivocation D G)) → IsEvidence eq vs es → IsEvidence eq within (evidence_within part es)
  evidence-within es is =
      let keep : Accusation → Bool = λ n. part n.round in
      let keys = map-filter accused_by keep es in
      record {
        ordered = subst (IsStrictlySortedBy accused_cmp) (sym keys)
            (IsStrictlySortedBy-filter accused_cmp keep (map accused_by es) is.ordered);
        sound = each _ _ (λ e e_in.
            let (e_in_es, here) = Contains-from_filter (λ (f : Equivocation D G). keep (accused_by f)) es e e_in in
            same_evidence-within (accused_by e) here
            ∙ All-contains (λ e. evidence_of eq vs (accused_by e) ≡ Some e) es e is.sound e_in_es);
        complete = λ n h.
            let (here, accused) = accused-from_within n h in
            subst (λ ns. Contains ns n) (sym keys)
            (Contains-filter keep (map accused_by es) n (is.complete n accused) here);
      }

  -- and as many are accused in each of its rounds
  pub same_count-within : (round : Round) → part round ≡ true → accused_count eq within round ≡ accused_count eq vs round
  same_count-within round here =
      let by = λ (q : ℕ) (kind : EquivocationKind).
      same_accused-within (record { round = round; signer = q; kind = kind }) here in
      let same : (q : ℕ) → is_accused_in eq within round q ≡ is_accused_in eq vs round q =
      λ q i. by q Conflicting_notarize i || (by q Conflicting_finalize i || by q Nullify_finalize i) in
      distinct_count-same _ _
      (λ q h. counted_signer eq vs round q (sym (same q) ∙ (Contains-from_filter (is_accused_in eq within round) _ q h).1))
      (λ q h. counted_signer eq within round q (same q ∙ (Contains-from_filter (is_accused_in eq vs round) _ q h).1))

-- ---- certified subjects of some rounds

module _ {D : Type 0} (eq : D → D → Bool) (part : Round → Bool) (xs : List (SubjectValue D)) where
  abbrev here : SubjectValue D → Bool
  here x = part (round_of x)

  -- the subjects of the part split the rounds of the part that all subjects split
  pub split-within : (round : Round) → part round ≡ true → are_split eq (filter here xs) round ≡ are_split eq xs round
  split-within round at =
      same_bool _ _ (split_more eq (filter here xs) xs round (λ x x_in x_at. (Contains-from_filter here xs x x_in).0))
      (split_more eq xs (filter here xs) round (λ x x_in x_at. Contains-filter here xs x x_in (ap part x_at ∙ at)))

  -- and no other round
  pub split-from_within : (round : Round) → are_split eq (filter here xs) round ≡ true → part round ≡ true
  split-from_within round h = let o = opposites eq (filter here xs) round h in sym (ap part o.x_here)
      ∙ (Contains-from_filter here xs o.x o.x_in).1

-- ---- messages judged in some rounds alone

module _ {S D C P G : Type 0} (rules : Rules S D C P G) (part : Round → Bool) (messages : List (Activity S D C P G)) where
  -- the valid votes are those of the part
  pub votes_in_rounds : valid_votes (in_rounds part rules) messages ≡ filter (is_vote_of part) (valid_votes rules messages)
  votes_in_rounds = filter_both (is_valid rules) (is_vote_of part) (flat_map (votes_in rules.listed) messages)

-- whether a subject is of the part
abbrev pub is_subject_of : {D : Type 0} → (Round → Bool) → SubjectValue D → Bool
is_subject_of part x = part (round_of x)

-- one more subject, if it is certified: it is selected if it is of the part
select_one : {D : Type 0} (keep : SubjectValue D → Bool) (x : SubjectValue D) (certified : Bool)
    (judged xs : List (SubjectValue D)) →
    judged ≡ filter keep xs →
    cons_option (cond (keep x && certified) (Some x) None) judged ≡ filter keep (cons_option (cond certified (Some x) None) xs)
select_one keep x certified judged xs same = one (keep x) certified refl
  where
    one : (a b : Bool) → keep x ≡ a →
        cons_option (cond (a && b) (Some x) None) judged ≡ filter keep (cons_option (cond b (Some x) None) xs)
    one true true is = ap (λ ys. x ∷ ys) same ∙ (λ i. cond (sym is i) (x ∷ filter keep xs) (filter keep xs))
    one false true is = same ∙ (λ i. cond (sym is i) (x ∷ filter keep xs) (filter keep xs))
    one true false is = same
    one false false is = same

-- the certified subjects are those of the part
pub subjects_in_rounds : {S D C P G : Type 0} (rules : Rules S D C P G) (part : Round → Bool)
    (messages : List (Activity S D C P G)) →
    certified_subjects (in_rounds part rules) messages ≡ filter (is_subject_of part) (certified_subjects rules messages)
subjects_in_rounds rules part [] = refl
subjects_in_rounds {S} {D} {C} {P} {G} rules part (m ∷ messages) =
    of_message (subject_and_certificate m) _ (certified_subjects rules messages) (subjects_in_rounds rules part messages)
  where
    of_message : (o : Option (SubjectValue D × C)) (judged xs : List (SubjectValue D)) →
        judged ≡ filter (is_subject_of part) xs →
        cons_option (if_certified (in_rounds part rules) o) judged
        ≡ filter (is_subject_of part) (cons_option (if_certified rules o) xs)
    of_message None judged xs rest = rest
    of_message (Some c) judged xs rest = select_one (is_subject_of part) c.0 (rules.certified c.0 c.1) judged xs rest
