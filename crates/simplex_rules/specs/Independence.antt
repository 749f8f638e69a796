-- Rounds are independent: the evidence and the splits of a part of the rounds.
use Rattle.std.specs.Prelude.{◌≡◌, ℕ, ◌<◌, ◌==◌, ◌&&◌, Bool, false, not, List, ◌++◌, length, map, filter, slice_get, Some, All, IsPermutation}
use Rattle.std.specs.List.{flat_map}
use Rattle.std.specs.List.Sorted.{IsStrictlySortedBy}
use Rattle.std.specs.Ordering.{is_le, ord_max}
use Rattle.simplex_base.specs.Positions.{Round}
use Rattle.simplex_scheme.specs.Subject.{round_of}
use Rattle.simplex_scheme.specs.declared.scheme.Attestation.{Attestation}
use Rattle.simplex_evidence.specs.Activity.{activity_round, votes_in}
use Rattle.simplex_evidence.specs.Contradiction.{Equivocation}
use Rattle.simplex_evidence.specs.declared.types.activity.Activity.{Activity}
use Rattle.simplex_rules.specs.Accusation.{accused_by, accused_cmp, round_cmp}
use Rattle.simplex_rules.specs.Evidence.{IsEvidence}
use Rattle.simplex_rules.specs.Rules.{Rules, valid_votes}
use Rattle.simplex_rules.specs.Splits.{AreSplits}
use Rattle.simplex_rules.specs.Suspects.{judged_by}
use Rattle.simplex_rules.specs.declared.split.Split.{Split}

-- ---- a part of the rounds

-- the round that no other is below
abbrev pub first_round : Round
first_round = record { epoch = 0; view = 0 }

-- whether a round is at a floor or above it
abbrev pub is_from : Round → Round → Bool
is_from floor round = is_le (round_cmp floor round)

module _ (part : Round → Bool) where
  -- the same rules, except that no vote and no certificate of a round outside the part is valid
  abbrev pub in_rounds : {S D C P G : Type 0} → Rules S D C P G → Rules S D C P G
  in_rounds rules =
      judged_by rules
      (λ x signer signature. part (round_of x) && rules.good x signer signature)
      (λ x certificate. part (round_of x) && rules.certified x certificate)

  -- the messages of these rounds, in their order
  abbrev pub of_rounds : {S D C P G : Type 0} → List (Activity S D C P G) → List (Activity S D C P G)
  of_rounds messages = filter (λ m. part (activity_round m)) messages

  -- the evidence that accuses in these rounds, in its order
  abbrev pub evidence_within : {D G : Type 0} → List (Equivocation D G) → List (Equivocation D G)
  evidence_within es = filter (λ e. part (accused_by e).round) es

  -- the splits of these rounds, in their order
  abbrev pub splits_within : List Split → List Split
  splits_within splits = filter (λ s. part s.round) splits

-- From the first round on everything is judged. What is judged from a floor on, and of that from another floor on, is what is
-- judged from the higher of them on.
pub record FloorsRise {S D C P G : Type 0} (rules : Rules S D C P G) : Type 0 where
  pub first : in_rounds (is_from first_round) rules ≡ rules
  pub higher : (low high : Round) →
      in_rounds (is_from high) (in_rounds (is_from low) rules) ≡ in_rounds (is_from (ord_max round_cmp low high)) rules

-- each vote of a message is of the message's round, as in every message that can be encoded
abbrev pub IsOfOneRound : {S D C P G : Type 0} → (C → List (Attestation S P G)) → Activity S D C P G → Type 0
IsOfOneRound listed m = All (λ v. round_of v.subject ≡ activity_round m) (votes_in listed m)

-- ---- that rounds are independent

module _ {S D C P G : Type 0} (rules : Rules S D C P G) (messages : List (Activity S D C P G)) where
  -- the evidence in the messages' valid votes of a part of the rounds
  abbrev pub IsEvidenceOf : (Round → Bool) → List (Equivocation D G) → Type 0
  IsEvidenceOf part es = IsEvidence rules.eq (valid_votes (in_rounds part rules) messages) es

  -- the splits of the messages in a part of the rounds
  abbrev pub AreSplitsOf : (Round → Bool) → List Split → Type 0
  AreSplitsOf part splits = AreSplits (in_rounds part rules) messages splits

  -- The evidence and the splits of a part of the rounds are those of all rounds that are of the part. It is the same whether
  -- nothing of another round is valid, or the messages of other rounds are left out.
  pub record RoundsAreIndependent (part : Round → Bool) : Type 0 where
    pub evidence : (es : List (Equivocation D G)) → IsEvidence rules.eq (valid_votes rules messages) es →
        IsEvidenceOf part (evidence_within part es)
    pub splits : (splits : List Split) → AreSplits rules messages splits → AreSplitsOf part (splits_within part splits)
    pub evidence_alone : All (IsOfOneRound rules.listed) messages → (es : List (Equivocation D G)) →
        IsEvidence rules.eq (valid_votes rules messages) es →
        IsEvidence rules.eq (valid_votes rules (of_rounds part messages)) (evidence_within part es)
    pub splits_alone : All (IsOfOneRound rules.listed) messages → (splits : List Split) → AreSplits rules messages splits →
        AreSplits rules (of_rounds part messages) (splits_within part splits)

  -- Each round is of one of several parts, and `class` says of which. The evidence of the parts, together and in order, is the
  -- evidence of all rounds, and so are the splits.
  pub record PartsAddUp (class : Round → ℕ) : Type 0 where
    pub evidence : (parts : List (List (Equivocation D G))) → ((round : Round) → class round < length parts) →
        ((i : ℕ) (es : List (Equivocation D G)) → slice_get parts i ≡ Some es →
        IsEvidenceOf (λ round. class round == i) es) →
        (all : List (Equivocation D G)) → IsPermutation (flat_map (λ es. es) parts) all →
        IsStrictlySortedBy accused_cmp (map accused_by all) → IsEvidence rules.eq (valid_votes rules messages) all
    pub splits : (parts : List (List Split)) → ((round : Round) → class round < length parts) →
        ((i : ℕ) (splits : List Split) → slice_get parts i ≡ Some splits →
        AreSplitsOf (λ round. class round == i) splits) →
        (all : List Split) → IsPermutation (flat_map (λ splits. splits) parts) all →
        IsStrictlySortedBy round_cmp (map (λ s. s.round) all) → AreSplits rules messages all

  -- the evidence below a floor, and then the evidence from the floor on, is the evidence of all rounds, and so are the splits
  pub record FloorParts (floor : Round) : Type 0 where
    pub evidence : (below above : List (Equivocation D G)) → IsEvidenceOf (λ round. not (is_from floor round)) below →
        IsEvidenceOf (is_from floor) above → IsEvidence rules.eq (valid_votes rules messages) (below ++ above)
    pub splits : (below above : List Split) → AreSplitsOf (λ round. not (is_from floor round)) below →
        AreSplitsOf (is_from floor) above → AreSplits rules messages (below ++ above)

module _ {S D C P G : Type 0} (rules : Rules S D C P G) (part : Round → Bool) (messages more : List (Activity S D C P G)) where
  -- further messages leave the valid votes, the evidence and the splits of a part as they were
  pub record PartStays : Type 0 where
    pub votes : valid_votes (in_rounds part rules) (messages ++ more) ≡ valid_votes (in_rounds part rules) messages
    pub evidence : (es : List (Equivocation D G)) → IsEvidenceOf rules messages part es →
        IsEvidenceOf rules (messages ++ more) part es
    pub splits : (splits : List Split) → AreSplitsOf rules messages part splits →
        AreSplitsOf rules (messages ++ more) part splits

  -- further messages of other rounds leave a part as it was
  abbrev pub OthersStay : Type 0
  OthersStay = All (IsOfOneRound rules.listed) more → All (λ m. part (activity_round m) ≡ false) more → PartStays
