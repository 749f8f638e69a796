-- The votes of a report's evidence have the same evidence.
use Rattle.simplex_rules.proofs.Prelude.{with_first, with_second, Activity, All-contains, All-from_recursion, Bool, Conflicting_finalize, Conflicting_notarize, Contains, Equivocation, IsEquivalence, IsEvidence, EquivocationKind, List, Accusation, None, Nullify_finalize, Option, Rules, SignedVote, Some, [], and_parts, ap, arith, cond, cond-true, contradicts, evidence_of, evidence_value, excludes, false, false≢true, filter, find, first_kind, flat_map, flat_map-map, inl, inr, is_at, is_accused, is_some, is_valid, map, activity_of, accused_by, refl, round_of, same_Some, subst, sym, true, valid_votes, votes_in, ◌&&◌, ◌∙◌, ◌∷◌, ◌≡◌, ◌⊎◌}
use Rattle.simplex_scheme.specs.declared.kind.VoteKind.TheVariants as kinds
use Rattle.simplex_rules.proofs.EvidenceLemmas.{EvidenceIs, evidence_exists, evidence_is, first_spot, moved_evidence, accused_from_votes}
use Rattle.simplex_rules.proofs.Lists.{Contains-cons, Contains-first, Contains-flat_map, Contains-from_filter, Contains-from_flat_map, Contains-from_map, found}
use Rattle.simplex_rules.proofs.Places.{Spot, excludes_itself, is_at-from, is_at-true, is_of-from, spot}
use Rattle.simplex_rules.proofs.RecordedLemmas.{second_agrees, second_by}
use Rattle.simplex_rules.specs.declared.evidence.Evidence as declared
use Rattle.simplex_rules.specs.declared.evidence.Evidence.TheVariants as variants

-- the two votes of an evidence
abbrev pair : {D G : Type 0} → Equivocation D G → List (SignedVote D G)
pair e = e.first ∷ e.second ∷ []

-- what is found among pairs is the first vote of a pair, or the second where the first does not pass
find_pairs : {D G : Type 0} (p : SignedVote D G → Bool) (Goal : SignedVote D G → Type 0) (es : List (Equivocation D G)) →
    ((e : Equivocation D G) → Contains es e →
    (p e.first ≡ true → Goal e.first) × (p e.first ≡ false → p e.second ≡ true → Goal e.second)) → (x : SignedVote D G) →
    find p (flat_map pair es) ≡ Some x → Goal x
find_pairs p Goal [] all x h = absurd cc
find_pairs {D} {G} p Goal (e ∷ es) all x h =
    by (p e.first) (p e.second) refl refl h (find_pairs p Goal es (λ f f_in. all f (Contains-cons e es f f_in)) x)
  where
    by : (a b : Bool) → p e.first ≡ a → p e.second ≡ b →
        cond a (Some e.first) (cond b (Some e.second) (find p (flat_map pair es))) ≡ Some x →
        (find p (flat_map pair es) ≡ Some x → Goal x) → Goal x
    by true b passes _ is rest = subst Goal (same_Some e.first x is) ((all e (Contains-first e es)).0 passes)
    by false true none passes is rest = subst Goal (same_Some e.second x is) ((all e (Contains-first e es)).1 none passes)
    by false false none also is rest = rest is

-- whether a vote is at a spot
abbrev at : {D G : Type 0} → Spot → SignedVote D G → Bool
at s = is_at s.kind s.round s.signer

module _ {D G : Type 0} (eq : D → D → Bool) (l : IsEquivalence eq) (vs : List (SignedVote D G)) (es : List (Equivocation D G))
    (report : IsEvidence eq vs es) where
  own : (e : Equivocation D G) → Contains es e → EvidenceIs eq vs (accused_by e) e
  own e e_in =
      evidence_is eq vs (accused_by e) e (All-contains (λ x. evidence_of eq vs (accused_by x) ≡ Some x) es e report.sound e_in)

  -- the first vote of an evidence is the earliest at its spot
  first_earliest : (e : Equivocation D G) → Contains es e → find (at (spot e.first)) vs ≡ Some e.first
  first_earliest e e_in =
      let is = own e e_in in
      subst (λ (s : Spot). find (at s) vs ≡ Some e.first)
      (sym (is_at-true (first_spot (accused_by e)) e.first (found _ vs e.first is.first).1)) is.first

  -- so is its second vote, or it is at the first one's spot and the earliest there that excludes the first
  second_there : (e : Equivocation D G) → Contains es e →
      (find (at (spot e.second)) vs ≡ Some e.second) ⊎ ((spot e.second ≡ spot e.first)
      × (find (λ w. at (spot e.first) w && excludes eq e.first.subject w.subject) vs ≡ Some e.second))
  second_there e e_in =
      by e.kind (is_at-true (first_spot (accused_by e)) e.first (found _ vs e.first (own e e_in).first).1) (own e e_in).second
    where
      other : (s : Spot) → spot e.first ≡ s → find (λ w. at s w && excludes eq e.first.subject w.subject) vs ≡ Some e.second →
          (find (at (spot e.second)) vs ≡ Some e.second) ⊎ ((spot e.second ≡ spot e.first)
          × (find (λ w. at (spot e.first) w && excludes eq e.first.subject w.subject) vs ≡ Some e.second))
      other s here f = inr (
        is_at-true s e.second
            (and_parts (at s e.second) (excludes eq e.first.subject e.second.subject) (found _ vs e.second f).1).0 ∙ sym here,
        subst (λ (t : Spot). find (λ w. at t w && excludes eq e.first.subject w.subject) vs ≡ Some e.second) (sym here) f,
      )

      by : (kind : EquivocationKind) →
          spot e.first ≡ first_spot (record { round = round_of e.first.subject; signer = e.first.signer; kind = kind }) →
          find (contradicts eq kind e.first) vs ≡ Some e.second →
          (find (at (spot e.second)) vs ≡ Some e.second) ⊎ ((spot e.second ≡ spot e.first)
          × (find (λ w. at (spot e.first) w && excludes eq e.first.subject w.subject) vs ≡ Some e.second))
      by Conflicting_notarize here is =
          other _ here (sym (λ i. find (λ w. second_agrees eq Conflicting_notarize _ _ e.first here w i) vs) ∙ is)
      by Conflicting_finalize here is =
          other _ here (sym (λ i. find (λ w. second_agrees eq Conflicting_finalize _ _ e.first here w i) vs) ∙ is)
      by Nullify_finalize here is =
          let f : find (is_at kinds.Finalize (round_of e.first.subject) e.first.signer) vs ≡ Some e.second =
          sym (λ i. find (λ w. second_agrees eq Nullify_finalize _ _ e.first here w i) vs) ∙ is in
          inl (subst (λ (t : Spot). find (at t) vs ≡ Some e.second)
          (sym (is_at-true (record { kind = kinds.Finalize; round = round_of e.first.subject; signer = e.first.signer })
          e.second (found _ vs e.second f).1)) f)

  -- a vote at a spot is the earliest there if it is the earliest at its own spot
  here : (s : Spot) (v : SignedVote D G) → at s v ≡ true → find (at (spot v)) vs ≡ Some v → find (at s) vs ≡ Some v
  here s v v_at = subst (λ (t : Spot). find (at t) vs ≡ Some v) (is_at-true s v v_at)

  -- the earliest vote at a spot among those of the evidence is the earliest of all votes
  earliest_again : (s : Spot) (x : SignedVote D G) → find (at s) (flat_map pair es) ≡ Some x → find (at s) vs ≡ Some x
  earliest_again s = find_pairs (at s) (λ v. find (at s) vs ≡ Some v) es (λ e e_in. (
    λ first_at. here s e.first first_at (first_earliest e e_in),
    λ none second_at. elim (second_there e e_in) [
      | inl earliest ↦ here s e.second second_at earliest
      | inr other ↦ absurd (false≢true (sym none ∙ is_at-from s e.first (sym other.0 ∙ is_at-true s e.second second_at)))
    ],
  ))

  -- so is the earliest that excludes it
  other_again : (s : Spot) (a x : SignedVote D G) → find (at s) vs ≡ Some a →
      find (λ w. at s w && excludes eq a.subject w.subject) (flat_map pair es) ≡ Some x →
      find (λ w. at s w && excludes eq a.subject w.subject) vs ≡ Some x
  other_again s a x is_a = find_pairs test (λ v. find test vs ≡ Some v) es (λ e e_in. (
    λ passes. absurd (not_a e.first passes (here s e.first (parts e.first passes).0 (first_earliest e e_in))),
    λ none passes. elim (second_there e e_in) [
      | inl earliest ↦ absurd (not_a e.second passes (here s e.second (parts e.second passes).0 earliest))
      | inr other ↦
          let first_at = is_at-from s e.first (sym other.0 ∙ is_at-true s e.second (parts e.second passes).0) in
          let same : e.first ≡ a = same_Some e.first a (sym (here s e.first first_at (first_earliest e e_in)) ∙ is_a) in
          (λ i. find (λ w. at (sym (is_at-true s e.first first_at) i) w && excludes eq (sym same i).subject w.subject) vs)
          ∙ other.1
    ],
  )) x
    where
      test : SignedVote D G → Bool
      test w = at s w && excludes eq a.subject w.subject

      parts : (v : SignedVote D G) → test v ≡ true → (at s v ≡ true) × (excludes eq a.subject v.subject ≡ true)
      parts v = and_parts (at s v) (excludes eq a.subject v.subject)

      not_a : (v : SignedVote D G) → test v ≡ true → find (at s) vs ≡ Some v → ⊥
      not_a v passes is_v =
          false≢true (sym (excludes_itself eq l a.subject)
          ∙ (λ i. excludes eq a.subject (same_Some a v (sym is_a ∙ is_v) i).subject) ∙ (parts v passes).1)

  -- a signer accused by all votes is accused by those of the evidence
  accused_again : (n : Accusation) → is_accused eq vs n ≡ true → is_accused eq (flat_map pair es) n ≡ true
  accused_again n h =
      let (e, e_in, e_is) = Contains-from_map accused_by es n (report.complete n h) in
      subst (λ m. is_accused eq (flat_map pair es) m ≡ true) e_is
      (accused_from_votes eq (flat_map pair es) (accused_by e) e.first e.second
      (Contains-flat_map pair es e e.first e_in (0, omega arith, refl))
      (Contains-flat_map pair es e e.second e_in (1, omega arith, refl))
      (is_of-from _ _ e.first refl refl) (found _ vs e.second (own e e_in).second).1)

  -- so each accusation has the same evidence
  same_again : (n : Accusation) → evidence_of eq (flat_map pair es) n ≡ evidence_of eq vs n
  same_again n =
      same (evidence_of eq (flat_map pair es) n) (evidence_of eq vs n) also
      (λ h. evidence_exists eq (flat_map pair es) l n ∙ accused_again n (sym (evidence_exists eq vs l n) ∙ h))
    where
      same : {X : Type 0} (o p : Option X) → ((x : X) → o ≡ Some x → p ≡ Some x) → (is_some p ≡ true → is_some o ≡ true) → o ≡ p
      same None None f g = refl
      same None (Some x) f g = absurd (false≢true (g refl))
      same (Some x) p f g = sym (f x refl)

      second : (kind : EquivocationKind) (a x : SignedVote D G) → find (is_at (first_kind kind) n.round n.signer) vs ≡ Some a →
          find (second_by eq kind n.round n.signer a) (flat_map pair es) ≡ Some x →
          find (second_by eq kind n.round n.signer a) vs ≡ Some x
      second Conflicting_notarize a x is_a =
          other_again (record { kind = kinds.Notarize; round = n.round; signer = n.signer }) a x is_a
      second Conflicting_finalize a x is_a =
          other_again (record { kind = kinds.Finalize; round = n.round; signer = n.signer }) a x is_a
      second Nullify_finalize a x is_a = earliest_again (record { kind = kinds.Finalize; round = n.round; signer = n.signer }) x

      also : (e : Equivocation D G) → evidence_of eq (flat_map pair es) n ≡ Some e → evidence_of eq vs n ≡ Some e
      also e h =
          let is = evidence_is eq (flat_map pair es) n e h in
          let first = earliest_again (first_spot n) e.first is.first in
          let agrees =
          second_agrees eq n.kind n.round n.signer e.first (is_at-true (first_spot n) e.first (found _ vs e.first first).1) in
          (λ i. with_first eq vs n.kind (first i)) ∙ (λ i. with_second n.kind e.first (((λ j. find (λ w. agrees w j) vs)
          ∙ second n.kind e.first e.second first (sym (λ j. find (λ w. agrees w j) (flat_map pair es)) ∙ is.second)) i)) ∙
          (λ i. Some (record { kind = (sym is.named i).kind; first = e.first; second = e.second }))

-- the evidence of some messages, as messages of its own, has the same evidence
pub evidence_again : {S D C P G : Type 0} (rules : Rules S D C P G) → IsEquivalence rules.eq → (ms : List (Activity S D C P G))
    (es : List (declared.Evidence S D P G)) → IsEvidence rules.eq (valid_votes rules ms) (map evidence_value es) →
    IsEvidence rules.eq (valid_votes rules (map activity_of es)) (map evidence_value es)
evidence_again {S} {D} {C} {P} {G} rules l ms es report =
    subst (λ ws. IsEvidence rules.eq ws (map evidence_value es)) (sym recorded)
    (moved_evidence rules.eq l (flat_map pair (map evidence_value es)) vs
    (λ n. sym (same_again rules.eq l vs (map evidence_value es) report n)) (map evidence_value es) report)
  where
    vs : List (SignedVote D G)
    vs = valid_votes rules ms

    -- the votes of the messages that are evidence
    two : (e : declared.Evidence S D P G) → votes_in rules.listed (activity_of {C = C} e) ≡ pair (evidence_value e)
    two (variants.ConflictingNotarize c) = refl
    two (variants.ConflictingFinalize c) = refl
    two (variants.NullifyFinalize c) = refl

    valid : (v : SignedVote D G) → Contains (flat_map pair (map evidence_value es)) v → is_valid rules v ≡ true
    valid v v_in =
        let (e, e_in, v_at) = Contains-from_flat_map pair (map evidence_value es) v v_in in
        let is = own rules.eq l (valid_votes rules ms) (map evidence_value es) report e e_in in
        let keeps = λ (w : SignedVote D G) (h : Contains vs w).
        (Contains-from_filter (is_valid rules) (flat_map (votes_in rules.listed) ms) w h).1 in
        All-contains (λ w. is_valid rules w ≡ true) (pair e) v (All-from_recursion (λ w. is_valid rules w ≡ true) (pair e) (
          keeps e.first
              (found (is_at (first_kind (accused_by e).kind) (accused_by e).round (accused_by e).signer) vs e.first is.first).0,
          (keeps e.second (found (contradicts rules.eq (accused_by e).kind e.first) vs e.second is.second).0, tt),
        )) v_at

    filter_all : (xs : List (SignedVote D G)) → ((v : SignedVote D G) → Contains xs v → is_valid rules v ≡ true) →
        filter (is_valid rules) xs ≡ xs
    filter_all [] h = refl
    filter_all (v ∷ xs) h =
        cond-true (is_valid rules v) (v ∷ filter (is_valid rules) xs) (filter (is_valid rules) xs) (h v (Contains-first v xs))
        ∙ ap (λ ys. v ∷ ys) (filter_all xs (λ w w_in. h w (Contains-cons v xs w w_in)))

    recorded : valid_votes rules (map activity_of es) ≡ flat_map pair (map evidence_value es)
    recorded =
        ap (filter (is_valid rules)) (flat_map-map (votes_in rules.listed) activity_of es ∙ (λ i. flat_map (λ e. two e i) es)
        ∙ sym (flat_map-map pair evidence_value es)) ∙
        filter_all (flat_map pair (map evidence_value es)) valid
