-- Evidence stays: what is found in votes is found with more votes behind them.
use Rattle.simplex_rules.proofs.Prelude.{Activity, All-contains, Accusation, Bool, Contains, Equivocation, IsEvidence, List, Rules, SignedVote, Some, accused_by, ap, contradicts, evidence_of, find, find-append, first_kind, is_at, is_some, option_or, same_Some, subst, sym, valid_votes, with_first, with_second, ◌++◌, ◌∙◌, ◌≡◌}
use Rattle.simplex_rules.specs.Stays.{EvidenceStays}
use Rattle.simplex_rules.proofs.EvidenceLemmas.{accused-from_evidence, evidence_is, valid_votes-append}
use Rattle.simplex_rules.proofs.Lists.{Contains-from_map}

-- what is found is found with more behind it
find_stays : {X : Type 0} (p : X → Bool) (xs ys : List X) (x : X) → find p xs ≡ Some x → find p (xs ++ ys) ≡ Some x
find_stays p xs ys x is = find-append p xs ys ∙ ap (λ o. option_or o (find p ys)) is

module _ {D G : Type 0} (eq : D → D → Bool) (vs ws : List (SignedVote D G)) where
  -- the evidence of an accusation stays when votes follow
  pub evidence_of-stays : (n : Accusation) (e : Equivocation D G) → evidence_of eq vs n ≡ Some e →
      evidence_of eq (vs ++ ws) n ≡ Some e
  evidence_of-stays n e h =
      let is = evidence_is eq vs n e h in
      ap (with_first eq (vs ++ ws) n.kind) (find_stays (is_at (first_kind n.kind) n.round n.signer) vs ws e.first is.first)
      ∙ ap (with_second n.kind e.first) (find_stays (contradicts eq n.kind e.first) vs ws e.second is.second)
      ∙ (λ i. Some (record { kind = sym (ap (λ (m : Accusation). m.kind) is.named) i; first = e.first; second = e.second }))

  -- so each evidence is evidence of more votes, too
  stays : (es fs : List (Equivocation D G)) → IsEvidence eq vs es → IsEvidence eq (vs ++ ws) fs →
      (e : Equivocation D G) → Contains es e → Contains fs e
  stays es fs is more e e_in =
      let own = evidence_of-stays (accused_by e) e
      (All-contains (λ e. evidence_of eq vs (accused_by e) ≡ Some e) es e is.sound e_in) in
      let accused = accused-from_evidence eq (vs ++ ws) (accused_by e) (ap is_some own) in
      let (f, f_in, f_is) = Contains-from_map accused_by fs (accused_by e) (more.complete (accused_by e) accused) in
      let found_f = All-contains (λ f. evidence_of eq (vs ++ ws) (accused_by f) ≡ Some f) fs f more.sound f_in in
      subst (Contains fs) (same_Some f e (sym found_f ∙ ap (evidence_of eq (vs ++ ws)) f_is ∙ own)) f_in

pub evidence_stays : {S D C P G : Type 0} (rules : Rules S D C P G) (ms more : List (Activity S D C P G)) →
    EvidenceStays rules ms more
evidence_stays rules ms more es fs is further =
    stays rules.eq (valid_votes rules ms) (valid_votes rules more) es fs is
    (subst (λ vs. IsEvidence rules.eq vs fs) (valid_votes-append rules ms more) further)
