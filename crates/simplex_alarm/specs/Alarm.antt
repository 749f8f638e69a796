-- What arises in messages, and what was told of it.
use Rattle.std.specs.Prelude.{◌≡◌, List, [], ◌∷◌, ◌++◌, map}
use Rattle.simplex_base.specs.Positions.{Round}
use Rattle.simplex_scheme.specs.Committees.{Schedule}
use Rattle.simplex_evidence.specs.Contradiction.{Equivocation}
use Rattle.simplex_evidence.specs.declared.types.activity.Activity.{Activity}
use Rattle.simplex_alarm.specs.Alerts.{Tells, untold}
use Rattle.simplex_detector.specs.Detector.{Recalls}
use Rattle.simplex_rules.specs.Independence.{evidence_within, in_rounds, is_from, splits_within}
use Rattle.simplex_rules.specs.Rules.{HaveCommittees, Rules, valid_votes}
use Rattle.simplex_alarm.specs.SplitAlerts.{TellsSplits}
use Rattle.simplex_rules.specs.Values.{evidence_value}
use Rattle.simplex_alarm.specs.declared.alarm.Alarm.{Alarm}
use Rattle.simplex_alarm.specs.declared.alarm.News.{News}
use Rattle.simplex_detector.specs.declared.detector.Detector.{Detector}
use Rattle.simplex_rules.specs.declared.judging.Judging.{Judging}
use Rattle.simplex_rules.specs.declared.split.Split.{Split}

-- evidence and splits, in the order in which they were told
pub record Told (D G : Type 0) : Type 0 where
  pub evidence : List (Equivocation D G)
  pub splits : List Split

-- nothing
abbrev pub nothing_told : {D G : Type 0} → Told D G
nothing_told = record { evidence = []; splits = [] }

-- what was told, and then what is told now
abbrev pub told_then : {S D P G : Type 0} → Told D G → News S D P G → Told D G
told_then told news = record {
  evidence = told.evidence ++ map evidence_value news.evidence.items;
  splits = told.splits ++ news.splits.items;
}

-- what was told, less what is below a floor
abbrev pub told_from : {D G : Type 0} → Round → Told D G → Told D G
told_from floor told = record {
  evidence = evidence_within (is_from floor) told.evidence;
  splits = splits_within (is_from floor) told.splits;
}

-- What was told of some messages, and what was not, are together their evidence, each once, and the splits that arose in them,
-- each as often as it changed.
pub record Sounds {S D C P G : Type 0} (rules : Rules S D C P G) (messages : List (Activity S D C P G)) (told : Told D G)
    (alarm : Alarm S D P G) : Type 0 where
  pub evidence : Tells rules.eq (valid_votes rules messages) told.evidence alarm.evidence
  pub splits : TellsSplits rules messages told.splits alarm.splits

-- ---- what each call does

-- no message was seen, and nothing told, for every way to judge and every schedule
abbrev pub SoundsNone : {S D C P G : Type 0} → (Judging → Schedule S → Rules S D C P G) → Alarm S D P G → Type 0
SoundsNone {S} rules alarm = (judging : Judging) (schedule : Schedule S) →
    Sounds (rules judging schedule) [] nothing_told alarm

-- further messages are observed by a detector in this state
abbrev pub SoundsMore : {S D C P G : Type 0} → Rules S D C P G → List (Activity S D C P G) → Detector S D P G → Alarm S D P G →
    Alarm S D P G → Type 0
SoundsMore {S} {D} {C} {P} {G} rules more detector old new =
    (messages : List (Activity S D C P G)) (told : Told D G) → HaveCommittees rules → Recalls rules messages detector →
    Sounds rules messages told old → Sounds rules (messages ++ more) told new

-- what arose by one more message is noted, for every way to judge it, behind any messages before it
abbrev pub SoundsNoted : {S D C P G : Type 0} → (Judging → Schedule S → Rules S D C P G) → Schedule S → Detector S D P G →
    Activity S D C P G → Alarm S D P G → Alarm S D P G → Type 0
SoundsNoted {S} {D} {C} {P} {G} rules schedule detector message old new =
    (judging : Judging) (messages : List (Activity S D C P G)) (told : Told D G) → HaveCommittees (rules judging schedule) →
    Recalls (rules judging schedule) (messages ++ message ∷ []) detector →
    Sounds (rules judging schedule) messages told old → Sounds (rules judging schedule) (messages ++ message ∷ []) told new

-- what was untold is told, and none is left
pub record SoundsUntold {S D P G : Type 0} (C : Type 0) (news : News S D P G) (old new : Alarm S D P G) : Type 0 where
  pub evidence_is : map evidence_value news.evidence.items ≡ untold old.evidence
  pub splits_are : news.splits.items ≡ old.splits.untold.items
  pub no_evidence_left : untold new.evidence ≡ []
  pub no_split_left : new.splits.untold.items ≡ []
  pub sounds : (rules : Rules S D C P G) (messages : List (Activity S D C P G)) (told : Told D G) →
      Sounds rules messages told old → Sounds rules messages (told_then told news) new

-- what is below a floor is given up
abbrev pub SoundsFrom : {S D C P G : Type 0} → Rules S D C P G → Round → Alarm S D P G → Alarm S D P G → Type 0
SoundsFrom {S} {D} {C} {P} {G} rules floor old new =
    (messages : List (Activity S D C P G)) (told : Told D G) → Sounds rules messages told old →
    Sounds (in_rounds (is_from floor) rules) messages (told_from floor told) new
