-- Who is accused, the evidence of everyone who is accused, and that the votes determine a report.
use Rattle.simplex_rules.proofs.Prelude.{Activity, All, All-contains, Bool, Contains, Contains-permutation, Equivocation, IsEquivalence, IsEquivocation, IsEvidence, IsPermutation, IsPermutation-sym, List, Accusation, ReorderingAccusesSame, None, Rules, SignedVote, Some, [], and_from, and_parts, ap, append-nil, clash, contradicts, evidence_of, filter, filter-append, find, first_kind, flat_map, flat_map-append, is_at, is_accused, is_of, is_some, is_valid, list_any, accused_by, accused_cmp, refl, round_of, same_Some, same_kind, kind_of, subst, sym, true, valid_votes, votes_in, with_first, with_second, ⊎_elim, ◌&&◌, ◌++◌, ◌∙◌, ◌∷◌, ◌≡◌}
use Rattle.simplex_rules.proofs.Lists.{Contains-filter, Contains-flat_map, Contains-from_filter, Contains-from_flat_map, Contains-from_list_any, IsListing, any_from_Contains, each, find_from_Contains, found, same_bool, some_from_is_some}
use Rattle.simplex_rules.proofs.Places.{Spot, clash_parts, clash_with_one, is_at-from, is_at-true, is_of-from, is_of-true}

-- ---- the valid votes of messages

-- a valid vote of messages is a vote of one of them
pub valid_from : {S D C P G : Type 0} (rules : Rules S D C P G) (ms : List (Activity S D C P G)) (v : SignedVote D G) →
    Contains (valid_votes rules ms) v →
    (m : Activity S D C P G) × Contains ms m × Contains (votes_in rules.listed m) v × (is_valid rules v ≡ true)
valid_from rules ms v h =
    let (v_in, valid) = Contains-from_filter (is_valid rules) (flat_map (votes_in rules.listed) ms) v h in
    let (m, m_in, own) = Contains-from_flat_map (votes_in rules.listed) ms v v_in in (m, m_in, own, valid)

pub valid_in : {S D C P G : Type 0} (rules : Rules S D C P G) (ms : List (Activity S D C P G)) (v : SignedVote D G)
    (m : Activity S D C P G) → Contains ms m → Contains (votes_in rules.listed m) v → is_valid rules v ≡ true →
    Contains (valid_votes rules ms) v
valid_in rules ms v m m_in own valid =
    Contains-filter (is_valid rules) _ v (Contains-flat_map (votes_in rules.listed) ms m v m_in own) valid

-- the valid votes of messages and of those that follow
pub valid_votes-append : {S D C P G : Type 0} (rules : Rules S D C P G) (ms ks : List (Activity S D C P G)) →
    valid_votes rules (ms ++ ks) ≡ valid_votes rules ms ++ valid_votes rules ks
valid_votes-append rules ms ks =
    ap (filter (is_valid rules)) (flat_map-append (votes_in rules.listed) ms ks)
    ∙ filter-append (is_valid rules) (flat_map (votes_in rules.listed) ms) (flat_map (votes_in rules.listed) ks)

-- the valid votes of messages and of one more
pub valid_votes-push : {S D C P G : Type 0} (rules : Rules S D C P G) (ms : List (Activity S D C P G))
    (m : Activity S D C P G) →
    valid_votes rules (ms ++ m ∷ []) ≡ valid_votes rules ms ++ filter (is_valid rules) (votes_in rules.listed m)
valid_votes-push rules ms m =
    valid_votes-append rules ms (m ∷ [])
    ∙ ap (λ vs. valid_votes rules ms ++ filter (is_valid rules) vs) (append-nil (votes_in rules.listed m))

-- ---- who is accused

-- the spot of the first vote of an accusation's evidence
abbrev pub first_spot : Accusation → Spot
first_spot n = record { kind = first_kind n.kind; round = n.round; signer = n.signer }

module _ {D G : Type 0} (eq : D → D → Bool) (vs : List (SignedVote D G)) (n : Accusation) where
  -- two votes that contradict accuse their signer
  pub accused_from_votes : (v w : SignedVote D G) → Contains vs v → Contains vs w → is_of n.round n.signer v ≡ true →
      contradicts eq n.kind v w ≡ true → is_accused eq vs n ≡ true
  accused_from_votes v w h k a c =
      any_from_Contains (λ x. is_of n.round n.signer x && list_any (contradicts eq n.kind x) vs) vs v h
      (and_from _ _ a (any_from_Contains (contradicts eq n.kind v) vs w k c))

  -- an accused signer has two votes that contradict
  pub votes_from_accused : is_accused eq vs n ≡ true → (v w : SignedVote D G) × Contains vs v × Contains vs w
      × (is_of n.round n.signer v ≡ true) × (contradicts eq n.kind v w ≡ true)
  votes_from_accused h =
      let a = Contains-from_list_any (λ x. is_of n.round n.signer x && list_any (contradicts eq n.kind x) vs) vs h in
      let p = and_parts (is_of n.round n.signer a.0) (list_any (contradicts eq n.kind a.0) vs) a.2 in
      let b = Contains-from_list_any (contradicts eq n.kind a.0) vs p.1 in
      (a.0, b.0, a.1, b.1, p.0, b.2)

-- a signer who is accused by some of the votes is accused by all
pub accused_by_more : {D G : Type 0} (eq : D → D → Bool) (vs ws : List (SignedVote D G)) →
    ((v : SignedVote D G) → Contains ws v → Contains vs v) → (n : Accusation) → is_accused eq ws n ≡ true →
    is_accused eq vs n ≡ true
accused_by_more eq vs ws more n h =
    let (v, w, in_v, in_w, of_v, against) = votes_from_accused eq ws n h in
    accused_from_votes eq vs n v w (more v in_v) (more w in_w) of_v against

-- the same messages in another order accuse the same signers
pub accused_in_any_order : {S D C P G : Type 0} (rules : Rules S D C P G) (ms : List (Activity S D C P G)) →
    ReorderingAccusesSame rules ms
accused_in_any_order {S} {D} {C} {P} {G} rules ms ks moved n =
    let also : (ms ks : List (Activity S D C P G)) → IsPermutation ms ks → (v : SignedVote D G) →
    Contains (valid_votes rules ms) v → Contains (valid_votes rules ks) v =
    λ ms ks moved v h. let (m, m_in, own, valid) = valid_from rules ms v h in
    valid_in rules ks v m (Contains-permutation ms ks m moved m_in) own valid in
    same_bool _ _ (accused_by_more rules.eq _ _ (also ms ks moved) n)
    (accused_by_more rules.eq _ _ (also ks ms (IsPermutation-sym ms ks moved)) n)

-- an accusation's evidence: its first vote is the earliest at its spot, and its second the earliest that contradicts the first
pub record EvidenceIs {D G : Type 0} (eq : D → D → Bool) (vs : List (SignedVote D G)) (n : Accusation)
    (e : Equivocation D G) : Type 0 where
  pub named : accused_by e ≡ n
  pub first : find (is_at (first_kind n.kind) n.round n.signer) vs ≡ Some e.first
  pub second : find (contradicts eq n.kind e.first) vs ≡ Some e.second

module _ {D G : Type 0} (eq : D → D → Bool) (vs : List (SignedVote D G)) where
  pub evidence_is : (n : Accusation) (e : Equivocation D G) → evidence_of eq vs n ≡ Some e → EvidenceIs eq vs n e
  evidence_is n e h =
      (elim (find (is_at (first_kind n.kind) n.round n.signer) vs) as (λ o.
      find (is_at (first_kind n.kind) n.round n.signer) vs ≡ o → with_first eq vs n.kind o ≡ Some e → EvidenceIs eq vs n e) [
        | None ↦ λ first is. absurd cc
        | Some v ↦ λ first. (elim (find (contradicts eq n.kind v)
            vs) as (λ o. find (contradicts eq n.kind v) vs ≡ o → with_second n.kind v o ≡ Some e → EvidenceIs eq vs n e) [
              | None ↦ λ second is. absurd cc
              | Some w ↦ λ second is.
                  let at = is_at-true (first_spot n) v (found _ vs v first).1 in
                  subst (EvidenceIs eq vs n) (same_Some _ e is) (record {
                    named = λ i. record { round = (at i).round; signer = (at i).signer; kind = n.kind };
                    first = first;
                    second = second;
                  })
            ]) refl
      ]) refl h

  -- an accusation that has evidence is one that the votes make
  pub accused-from_evidence : (n : Accusation) → is_some (evidence_of eq vs n) ≡ true → is_accused eq vs n ≡ true
  accused-from_evidence n h =
      let (e, found_e) = some_from_is_some (evidence_of eq vs n) h in
      let is = evidence_is n e found_e in
      let (first_in, at) = found _ vs e.first is.first in
      let (second_in, against) = found _ vs e.second is.second in
      accused_from_votes eq vs n e.first e.second first_in second_in
      (and_parts (same_kind (kind_of e.first.subject) (first_kind n.kind)) (is_of n.round n.signer e.first) at).1 against

  -- an accusation that the votes make has evidence
  pub evidence-from_accused : IsEquivalence eq → (n : Accusation) → is_accused eq vs n ≡ true →
      is_some (evidence_of eq vs n) ≡ true
  evidence-from_accused l n h =
      let (v, w, v_in, w_in, of_v, against) = votes_from_accused eq vs n h in
      let p = and_parts (is_of (round_of v.subject) v.signer w) (clash eq n.kind v.subject w.subject) against in
      let v_at = is_of-true n.round n.signer v of_v in
      let w_at = is_of-true (round_of v.subject) v.signer w p.0 in
      let a = find_from_Contains (is_at (first_kind n.kind) n.round n.signer) vs v v_in (is_at-from (first_spot n) v
      (λ i. record { kind = (clash_parts eq n.kind v.subject w.subject p.1).0 i; round = v_at.0 i; signer = v_at.1 i })) in
      let at = is_at-true (first_spot n) a.0 (found _ vs a.0 a.1).1 in
      let second : (u : SignedVote D G) → Contains vs u → round_of u.subject ≡ n.round → u.signer ≡ n.signer →
      clash eq n.kind a.0.subject u.subject ≡ true → (x : SignedVote D G) × (find (contradicts eq n.kind a.0) vs ≡ Some x) =
      λ u u_in r s c. find_from_Contains (contradicts eq n.kind a.0) vs u u_in
      (and_from _ _ (is_of-from _ _ u (r ∙ sym (λ i. (at i).round)) (s ∙ sym (λ i. (at i).signer))) c) in
      let b = ⊎_elim (second v v_in v_at.0 v_at.1) (second w w_in (w_at.0 ∙ v_at.0) (w_at.1 ∙ v_at.1))
      (clash_with_one eq l n.kind a.0.subject v.subject w.subject (λ i. (at i).kind) p.1) in
      rw (a.1, b.1)

  pub evidence_exists : IsEquivalence eq → (n : Accusation) → is_some (evidence_of eq vs n) ≡ is_accused eq vs n
  evidence_exists l n = same_bool _ _ (accused-from_evidence n) (evidence-from_accused l n)

  -- the evidence of votes lists the evidence of everyone who is accused
  pub as_listing : (es : List (Equivocation D G)) → IsEvidence eq vs es →
      IsListing accused_by accused_cmp (evidence_of eq vs) es
  as_listing es is =
      record { ordered = is.ordered; sound = is.sound; complete = λ n h. is.complete n (accused-from_evidence n h) }

  pub from_listing : IsEquivalence eq → (es : List (Equivocation D G)) →
      IsListing accused_by accused_cmp (evidence_of eq vs) es → IsEvidence eq vs es
  from_listing l es is =
      record { ordered = is.ordered; sound = is.sound; complete = λ n h. is.complete n (evidence-from_accused l n h) }

  -- each evidence of a report is two of the votes that contradict
  pub all_equivocations : (es : List (Equivocation D G)) → IsEvidence eq vs es → All (IsEquivocation eq vs) es
  all_equivocations es is = each (IsEquivocation eq vs) es (λ e e_in.
      let own =
      evidence_is (accused_by e) e (All-contains (λ e. evidence_of eq vs (accused_by e) ≡ Some e) es e is.sound e_in) in
      let (first_in, _) = found _ vs e.first own.first in
      let (second_in, against) = found _ vs e.second own.second in
      record { first_cast = first_in; second_cast = second_in; contradict = against })

-- votes that give each accusation the same evidence have the same report
pub moved_evidence : {D G : Type 0} (eq : D → D → Bool) → IsEquivalence eq → (vs ws : List (SignedVote D G)) →
    ((n : Accusation) → evidence_of eq ws n ≡ evidence_of eq vs n) → (es : List (Equivocation D G)) → IsEvidence eq ws es →
    IsEvidence eq vs es
moved_evidence eq l vs ws same es is =
    from_listing eq vs l es (subst (λ f. IsListing accused_by accused_cmp f es) (λ i n. same n i) (as_listing eq ws es is))
