-- What holds of any messages, whatever stream they are of.
use Rattle.std.specs.Prelude.{List, map, All}
use Rattle.simplex_votes.specs.Votes.{SignedVote}
use Rattle.simplex_evidence.specs.Contradiction.{Equivocation}
use Rattle.simplex_evidence.specs.declared.types.activity.Activity.{Activity}
use Rattle.simplex_rules.specs.Evidence.{IsEvidence, IsEquivocation}
use Rattle.simplex_rules.specs.Laws.{EvidenceIsUnique, AccusesExactly, ReorderingAccusesSame, AccusedStay, IsEvidenceAgain}
use Rattle.simplex_rules.specs.Rules.{Rules, AreLawful, valid_votes}
use Rattle.simplex_rules.specs.Splits.{AreSplits}
use Rattle.simplex_rules.specs.SplitLaws.{EnoughAreAccused, SignersAreAccountable, SplitsAreUnique, SplitsHaveAccused}
use Rattle.simplex_rules.specs.Values.{evidence_value}
use Rattle.simplex_rules.specs.declared.evidence.Evidence as recorded
use Rattle.simplex_rules.specs.declared.split.Split.{Split}

-- The laws of the evidence and the splits of any messages under these rules, as `simplex_detector` states them.
pub record MessageLaws {S D C P G : Type 0} (rules : Rules S D C P G) : Type 0 where
  pub any_order : (messages : List (Activity S D C P G)) → ReorderingAccusesSame rules messages
  pub later : (messages : List (Activity S D C P G)) → AccusedStay rules messages
  pub names : (vs : List (SignedVote D G)) (es : List (Equivocation D G)) → IsEvidence rules.eq vs es →
      AccusesExactly rules.eq vs es
  pub sound : (vs : List (SignedVote D G)) (es : List (Equivocation D G)) → IsEvidence rules.eq vs es →
      All (IsEquivocation rules.eq vs) es
  pub only : (vs : List (SignedVote D G)) (es : List (Equivocation D G)) → IsEvidence rules.eq vs es →
      EvidenceIsUnique rules.eq vs es
  pub again : (messages : List (Activity S D C P G)) (es : List (recorded.Evidence S D P G)) → AreLawful rules →
      IsEvidence rules.eq (valid_votes rules messages) (map evidence_value es) → IsEvidenceAgain rules es
  pub enough : (messages : List (Activity S D C P G)) → AreLawful rules → EnoughAreAccused rules messages
  pub signers : (messages : List (Activity S D C P G)) → AreLawful rules → SignersAreAccountable rules messages
  pub only_splits : (messages : List (Activity S D C P G)) (splits : List Split) → AreSplits rules messages splits →
      SplitsAreUnique rules messages splits
  pub split_accused : (messages : List (Activity S D C P G)) (splits : List Split) → AreLawful rules →
      AreSplits rules messages splits → SplitsHaveAccused splits
