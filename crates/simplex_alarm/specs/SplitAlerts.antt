-- Splits as they arise, and what was told of them.
use Rattle.std.specs.Prelude.{◌≡◌, List, [], ◌∷◌, ◌++◌, Some}
use Rattle.std.specs.BTreeMap.{get}
use Rattle.simplex_base.specs.Positions.{Round}
use Rattle.simplex_scheme.specs.Committees.{Schedule}
use Rattle.simplex_evidence.specs.declared.types.activity.Activity.{Activity}
use Rattle.simplex_rules.specs.Accusation.{round_cmp}
use Rattle.simplex_detector.specs.Detector.{Recalls}
use Rattle.simplex_rules.specs.Independence.{in_rounds, is_from, splits_within}
use Rattle.simplex_rules.specs.Rules.{HaveCommittees, Rules}
use Rattle.simplex_rules.specs.Splits.{split_of}
use Rattle.simplex_detector.specs.declared.detector.Detector.{Detector}
use Rattle.simplex_rules.specs.declared.judging.Judging.{Judging}
use Rattle.simplex_rules.specs.declared.split.Split.{Split}
use Rattle.simplex_alarm.specs.declared.split_alerts.SplitAlerts.{SplitAlerts}
use Rattle.simplex_rules.specs.Arising.{accused_of, unless_known, splits_arising}

-- what was told of some messages, and what was not, are the splits that arose in them, each as often as it changed
pub record TellsSplits {S D C P G : Type 0} (rules : Rules S D C P G) (messages : List (Activity S D C P G))
    (told : List Split) (alerts : SplitAlerts) : Type 0 where
  pub counts : (round : Round) → get round_cmp alerts.accused round ≡ accused_of (split_of rules messages round)
  pub all : told ++ alerts.untold.items ≡ splits_arising rules [] messages

-- ---- what each call does

module _ {S D C P G : Type 0} (rules : Judging → Schedule S → Rules S D C P G) where
  -- no message was seen, and nothing told
  abbrev pub TellsNoSplit : SplitAlerts → Type 0
  TellsNoSplit alerts = (judging : Judging) (schedule : Schedule S) → TellsSplits (rules judging schedule) [] [] alerts

  -- one message more, which a detector has observed, for every way to judge
  abbrev pub NotesSplit : Schedule S → Detector S D P G → Activity S D C P G → SplitAlerts → SplitAlerts → Type 0
  NotesSplit schedule detector message old new =
      (judging : Judging) (messages : List (Activity S D C P G)) (told : List Split) →
      HaveCommittees (rules judging schedule) → Recalls (rules judging schedule) (messages ++ message ∷ []) detector →
      TellsSplits (rules judging schedule) messages told old →
      TellsSplits (rules judging schedule) (messages ++ message ∷ []) told new

-- the untold splits are told, and none is left
pub record TellsUntoldSplits (taken : List Split) (old new : SplitAlerts) : Type 0 where
  pub taken_is : taken ≡ old.untold.items
  pub none_left : new.untold.items ≡ []
  pub counts : new.accused ≡ old.accused

-- what is below a floor is given up
abbrev pub TellsSplitsFrom : {S D C P G : Type 0} → Rules S D C P G → Round → SplitAlerts → SplitAlerts → Type 0
TellsSplitsFrom {S} {D} {C} {P} {G} rules floor old new =
    (messages : List (Activity S D C P G)) (told : List Split) → TellsSplits rules messages told old →
    TellsSplits (in_rounds (is_from floor) rules) messages (splits_within (is_from floor) told) new

-- a split is added, unless it is known with as many accused
pub record AddsSplit (split : Split) (old new : SplitAlerts) : Type 0 where
  pub here : get round_cmp new.accused split.round ≡ Some split.named
  pub others : (round : Round) → (round ≡ split.round → ⊥) →
      get round_cmp new.accused round ≡ get round_cmp old.accused round
  pub untold : new.untold.items ≡ old.untold.items ++ unless_known (get round_cmp old.accused split.round) (Some split)
