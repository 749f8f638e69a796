-- Messages that can stand for others: the same is recorded of both, and so any further messages make the same of them.
use Rattle.std.specs.Prelude.{◌≡◌, ℕ, false, ◌↔◌, List, ◌++◌}
use Rattle.simplex_base.specs.Positions.{Round}
use Rattle.simplex_scheme.specs.declared.kind.VoteKind.{VoteKind}
use Rattle.simplex_evidence.specs.Contradiction.{Equivocation}
use Rattle.simplex_evidence.specs.declared.types.activity.Activity.{Activity}
use Rattle.simplex_rules.specs.Evidence.{IsEvidence}
use Rattle.simplex_rules.specs.FirstCertified.{are_split, certified_subjects, first_certified}
use Rattle.simplex_rules.specs.Recorded.{slot_of, votes_recorded}
use Rattle.simplex_rules.specs.Rules.{Rules, valid_votes}
use Rattle.simplex_rules.specs.Splits.{AreSplits}
use Rattle.simplex_rules.specs.declared.split.Split.{Split}

module _ {S D C P G : Type 0} (rules : Rules S D C P G) (messages others : List (Activity S D C P G)) where
  -- The same is recorded of both: of each kind, round and signer the earliest valid vote and the earliest with another
  -- proposal, and of each round whether it is split and, if it is not, the first certified subject of each kind.
  pub record HaveSameState : Type 0 where
    pub votes : (kind : VoteKind) (round : Round) (signer : ℕ) →
        slot_of rules.eq (valid_votes rules messages) kind round signer
        ≡ slot_of rules.eq (valid_votes rules others) kind round signer
    pub splits : (round : Round) → are_split rules.eq (certified_subjects rules messages) round
        ≡ are_split rules.eq (certified_subjects rules others) round
    pub firsts : (round : Round) → are_split rules.eq (certified_subjects rules messages) round ≡ false → (kind : VoteKind) →
        first_certified (certified_subjects rules messages) round kind
        ≡ first_certified (certified_subjects rules others) round kind

  -- Either can stand for the other among any messages: with any before and any behind them, the evidence is the same, and so
  -- are the splits and the number of recorded votes.
  pub record AreInterchangeable : Type 0 where
    pub evidence : (before more : List (Activity S D C P G)) (es : List (Equivocation D G)) →
        IsEvidence rules.eq (valid_votes rules (before ++ (messages ++ more))) es ↔
        IsEvidence rules.eq (valid_votes rules (before ++ (others ++ more))) es
    pub splits : (before more : List (Activity S D C P G)) (splits : List Split) →
        AreSplits rules (before ++ (messages ++ more)) splits ↔ AreSplits rules (before ++ (others ++ more)) splits
    pub recorded : (before more : List (Activity S D C P G)) →
        votes_recorded rules.eq (valid_votes rules (before ++ (messages ++ more)))
        ≡ votes_recorded rules.eq (valid_votes rules (before ++ (others ++ more)))

module _ {S D C P G : Type 0} (rules : Rules S D C P G) where
  -- among any messages, messages with the same state leave the same state
  abbrev pub SameStateAmong : Type 0
  SameStateAmong = (messages others before more : List (Activity S D C P G)) → HaveSameState rules messages others →
      HaveSameState rules (before ++ (messages ++ more)) (before ++ (others ++ more))

  -- the state of joined messages is determined by the states of both
  abbrev pub SameStateJoined : Type 0
  SameStateJoined = (messages others more further : List (Activity S D C P G)) → HaveSameState rules messages others →
      HaveSameState rules more further → HaveSameState rules (messages ++ more) (others ++ further)
