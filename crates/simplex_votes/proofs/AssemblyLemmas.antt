-- From which votes a certificate can be assembled.
use Rattle.std.proofs.Common.{◌≡◌, ℕ, zero, suc, ◌<◌, ◌≤◌, Bool, true, false, List, [], ◌∷◌, length, get_or, map, sym, refl, subst, ◌∙◌, arith}
use Rattle.std.specs.Prelude.{All, nat_eq}
use Rattle.std.specs.List.{IsDistinct, AllPairs}
use Rattle.std.proofs.lemmas.Simd.{map-map}
use Rattle.std.proofs.lemmas.List.Elements.{All-tail, All-map}
use Rattle.simplex_scheme.specs.declared.scheme.Attestation.{Attestation}
use Rattle.simplex_scheme.specs.Subject.{SubjectValue}
use Rattle.std.proofs.lemmas.Bool.Decides.{nat_tests}
use Rattle.std.proofs.lemmas.List.{get_or-map, length-map}
use Rattle.std.proofs.lemmas.Map.Keys.{IsDistinct-from_apart}
use Rattle.simplex_votes.specs.Assembly.{CanAssemble, StandInOrder}

-- votes of which each two are for one subject are for the first one's
pub all_for_first : {V X : Type 0} (subject : V → X) (votes : List V) (d : V) → AllPairs (λ v w. subject v ≡ subject w) votes →
    All (λ v. subject v ≡ subject (get_or votes 0 d)) votes
all_for_first subject [] d same k e lt = absurd (omega (arith, lt))
all_for_first subject (v ∷ vs) d same zero e lt = refl
all_for_first subject (v ∷ vs) d same (suc k) e lt = sym (same 0 (suc k) e (omega arith) lt)

-- votes for one subject are so by pairs
pairs_for : {V X : Type 0} (subject : V → X) (votes : List V) (x : X) → All (λ v. subject v ≡ x) votes →
    AllPairs (λ v w. subject v ≡ subject w) votes
pairs_for subject votes x each i j d before lt = each i d (omega arith) ∙ sym (each j d lt)

-- what holds of the attestations holds of the votes' own
of_votes : {V A : Type 0} (Q : A → Type 0) (attestation : V → A) (votes : List V) → All Q (map attestation votes) →
    All (λ v. Q (attestation v)) votes
of_votes Q attestation [] each k d lt = absurd (omega (arith, lt))
of_votes Q attestation (v ∷ vs) each zero d lt = each zero (attestation d) (omega arith)
of_votes Q attestation (v ∷ vs) each (suc k) d lt =
    of_votes Q attestation vs (All-tail Q (attestation v) (map attestation vs) each) k d (omega (arith, lt))

-- from votes for one subject, with distinct signers out of n, a certificate can be assembled
pub can_assemble_from : {V X S P G : Type 0} (subject : V → X) (attestation : V → Attestation S P G) (n : ℕ) (votes : List V)
    (x : X) → 1 ≤ length votes → All (λ v. subject v ≡ x) votes →
    IsDistinct nat_eq (map (λ v. (attestation v).signer) votes) × All (λ v. (attestation v).signer < n) votes →
    CanAssemble subject attestation n votes
can_assemble_from subject attestation n votes x some each (distinct, members) = record {
  some = some;
  same = pairs_for subject votes x each;
  distinct = subst (IsDistinct nat_eq) (sym (map-map (λ a. a.signer) attestation votes)) distinct;
  members = All-map (λ a. a.signer < n) attestation votes members;
}

-- and only of such
pub distinct_from_can : {V X S P G : Type 0} (subject : V → X) (attestation : V → Attestation S P G) (n : ℕ) (votes : List V) →
    CanAssemble subject attestation n votes →
    IsDistinct nat_eq (map (λ v. (attestation v).signer) votes) × All (λ v. (attestation v).signer < n) votes
distinct_from_can subject attestation n votes can = (
  subst (IsDistinct nat_eq) (map-map (λ a. a.signer) attestation votes) can.distinct,
  of_votes (λ a. a.signer < n) attestation votes can.members,
)

-- votes for one subject, each valid for its own, are valid for that one
pub good_for : {V X S D P G : Type 0} (good : SubjectValue D → ℕ → G → Bool) (says : X → SubjectValue D) (subject : V → X)
    (attestation : V → Attestation S P G) (votes : List V) (x : X) → All (λ v. subject v ≡ x) votes →
    All (λ v. good (says (subject v)) (attestation v).signer (attestation v).signature ≡ true) votes →
    All (λ v. good (says x) (attestation v).signer (attestation v).signature ≡ true) votes
good_for good says subject attestation votes x same each k d lt =
    let vote = get_or votes k d in
    subst (λ y. good (says y) (attestation vote).signer (attestation vote).signature ≡ true) (same k d lt) (each k d lt)

-- ---- votes in the order of their signers

module _ {V S P G : Type 0} (attestation : V → Attestation S P G) where
  differ : (m n : ℕ) → m < n → nat_eq m n ≡ false
  differ m n less = grind (arith, nat_tests)

  distinct_in_order : (votes : List V) → AllPairs (λ v w. (attestation v).signer < (attestation w).signer) votes →
      IsDistinct nat_eq (map (λ v. (attestation v).signer) votes)
  distinct_in_order [] ordered = IsDistinct-from_apart nat_eq [] (λ i j d before within. absurd (omega arith))
  distinct_in_order (v ∷ vs) ordered =
      let number : V → ℕ = λ w. (attestation w).signer in
      IsDistinct-from_apart nat_eq (map number (v ∷ vs)) (λ i j d before within.
      let inside : j < length (v ∷ vs) = omega (arith, length-map (v ∷ vs) number) in
      rw (get_or-map number (v ∷ vs) i v d (omega arith), get_or-map number (v ∷ vs) j v d inside)
      (differ _ _ (ordered i j v before inside)))

  -- a certificate can be assembled from them
  pub can_in_order : {X : Type 0} (subject : V → X) (n : ℕ) (votes : List V) → StandInOrder subject attestation n votes →
      CanAssemble subject attestation n votes
  can_in_order subject n votes stand = record {
    some = stand.some;
    same = stand.same;
    distinct =
        subst (IsDistinct nat_eq) (sym (map-map (λ a. a.signer) attestation votes)) (distinct_in_order votes stand.ordered);
    members = All-map (λ a. a.signer < n) attestation votes stand.members;
  }
