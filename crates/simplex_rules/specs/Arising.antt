-- Which splits arise message by message.
use Rattle.std.specs.Prelude.{ℕ, Bool, false, ◌==◌, List, [], ◌∷◌, ◌++◌, Option, Some, None, if◌then◌else◌}
use Rattle.simplex_evidence.specs.Activity.{activity_round}
use Rattle.simplex_evidence.specs.declared.types.activity.Activity.{Activity}
use Rattle.simplex_rules.specs.Rules.{Rules}
use Rattle.simplex_rules.specs.Splits.{split_of}
use Rattle.simplex_rules.specs.declared.split.Split.{Split}

-- how many are accused, if there is a split
abbrev pub accused_of : Option Split → Option ℕ
accused_of None = None
accused_of (Some split) = Some split.named

-- whether a number is known
abbrev pub is_known : Option ℕ → ℕ → Bool
is_known None n = false
is_known (Some k) n = k == n

-- a split, if there is one and another number was accused before
abbrev pub unless_known : Option ℕ → Option Split → List Split
unless_known before None = []
unless_known before (Some split) = if is_known before split.named then [] else split ∷ []

module _ {S D C P G : Type 0} (rules : Rules S D C P G) where
  -- the split of a message's round behind the message, if the message changes it: it splits the round, or more are accused
  abbrev pub split_arising : List (Activity S D C P G) → Activity S D C P G → List Split
  split_arising before m =
      unless_known (accused_of (split_of rules before (activity_round m)))
      (split_of rules (before ++ m ∷ []) (activity_round m))

  -- the splits that messages change, in the order in which the messages come, behind others
  abbrev pub splits_arising : List (Activity S D C P G) → List (Activity S D C P G) → List Split
  splits_arising before [] = []
  splits_arising before (m ∷ ms) = split_arising before m ++ splits_arising (before ++ m ∷ []) ms
