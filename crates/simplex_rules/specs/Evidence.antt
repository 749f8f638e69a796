-- The evidence in a list of votes.
use Rattle.std.specs.Prelude.{◌≡◌, ℕ, Bool, List, map, Option, Some, None, All, Contains, IsTrue}
use Rattle.std.specs.List.{filter_map, find}
use Rattle.std.specs.List.Sorted.{IsStrictlySortedBy}
use Rattle.simplex_base.specs.Positions.{Round}
use Rattle.simplex_votes.specs.Votes.{SignedVote, is_at}
use Rattle.simplex_evidence.specs.Contradiction.{EquivocationKind, Equivocation, contradicts, first_kind}
use Rattle.simplex_rules.specs.Accusation.{Accusation, accusations_of, is_accused, accused_by, accused_cmp}

-- the evidence of a vote and another, if there is one
abbrev pub with_second : {D G : Type 0} → EquivocationKind → SignedVote D G → Option (SignedVote D G) →
    Option (Equivocation D G)
with_second kind v None = None
with_second kind v (Some w) = Some (record { kind = kind; first = v; second = w })

-- the evidence of a vote, if there is one, and the earliest that contradicts it with that kind
abbrev pub with_first : {D G : Type 0} → (D → D → Bool) → List (SignedVote D G) → EquivocationKind → Option (SignedVote D G) →
    Option (Equivocation D G)
with_first eq vs kind None = None
with_first eq vs kind (Some v) = with_second kind v (find (contradicts eq kind v) vs)

-- the evidence of an accusation: the signer's earliest vote of the first of its two kinds, and the earliest that contradicts it
abbrev pub evidence_of : {D G : Type 0} → (D → D → Bool) → List (SignedVote D G) → Accusation → Option (Equivocation D G)
evidence_of eq vs n = with_first eq vs n.kind (find (is_at (first_kind n.kind) n.round n.signer) vs)

-- the evidence against a signer in a round, in the order of kinds
abbrev pub evidence_against : {D G : Type 0} → (D → D → Bool) → List (SignedVote D G) → Round → ℕ → List (Equivocation D G)
evidence_against eq vs round signer = filter_map (evidence_of eq vs) (accusations_of round signer)

-- es is the evidence of the votes: in order, each the evidence of its accusation, and nobody accused left out
pub record IsEvidence {D G : Type 0} (eq : D → D → Bool) (vs : List (SignedVote D G))
    (es : List (Equivocation D G)) : Type 0 where
  pub ordered : IsStrictlySortedBy accused_cmp (map accused_by es)
  pub sound : All (λ e. evidence_of eq vs (accused_by e) ≡ Some e) es
  pub complete : (n : Accusation) → IsTrue (is_accused eq vs n) → Contains (map accused_by es) n

-- both votes of an evidence are among the votes, and contradict with its kind
pub record IsEquivocation {D G : Type 0} (eq : D → D → Bool) (vs : List (SignedVote D G)) (e : Equivocation D G) : Type 0 where
  pub first_cast : Contains vs e.first
  pub second_cast : Contains vs e.second
  pub contradict : IsTrue (contradicts eq e.kind e.first e.second)
