-- What a message that is no news leaves of what arose.
use Rattle.simplex_rules.proofs.Prelude.{◌≡◌, ◌++◌, ◌∷◌, [], false, List, IsEquivalence}
use Rattle.simplex_evidence.specs.declared.types.activity.Activity.{Activity}
use Rattle.simplex_alarm.specs.Alarm.{Sounds, Told}
use Rattle.simplex_rules.specs.News.{message_is_news}
use Rattle.simplex_rules.specs.Rules.{Rules}
use Rattle.simplex_alarm.specs.declared.alarm.Alarm.{Alarm}
use Rattle.simplex_alarm.proofs.AlertLemmas.{tells_same}
use Rattle.simplex_alarm.proofs.SplitAlertLemmas.{splits_same}

-- it changes nothing of what was told and what was not
pub sounds_same : {S D C P G : Type 0} (rules : Rules S D C P G) (messages : List (Activity S D C P G))
    (m : Activity S D C P G) → IsEquivalence rules.eq → message_is_news rules messages m ≡ false → (told : Told D G)
    (alarm : Alarm S D P G) → Sounds rules messages told alarm → Sounds rules (messages ++ m ∷ []) told alarm
sounds_same rules messages m l none told alarm sounds = record {
  evidence = tells_same rules l messages m none told.evidence alarm.evidence sounds.evidence;
  splits = splits_same rules messages m l none told.splits alarm.splits sounds.splits;
}
