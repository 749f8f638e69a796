-- What a listener has heard of a stream and told of it.
use Rattle.std.specs.Prelude.{◌≡◌, ℕ, List, []}
use Rattle.simplex_base.specs.Positions.{Round}
use Rattle.simplex_scheme.specs.Committees.{Schedule}
use Rattle.simplex_evidence.specs.declared.types.activity.Activity.{Activity}
use Rattle.simplex_alarm.specs.Alarm.{Sounds, SoundsMore, Told, told_then}
use Rattle.simplex_alarm.specs.Alerts.{IsEachOnce}
use Rattle.simplex_rules.specs.Rules.{Rules, valid_votes}
use Rattle.simplex_rules.specs.Arising.{splits_arising}
use Rattle.simplex_alarm.specs.declared.alarm.News.{News}
use Rattle.simplex_rules.specs.declared.judging.Judging.{Judging}
use Rattle.simplex_audit.specs.Auditor.{StandsFrom}
use Rattle.simplex_audit.specs.Basis.{Basis, basis_from}
use Rattle.simplex_audit.specs.Recording.{RecordsMore}
use Rattle.simplex_audit.specs.declared.auditor.Auditor.{Auditor}
use Rattle.simplex_audit.specs.declared.listener.Listener.{Listener}
use Rattle.simplex_audit.specs.declared.listener.Watcher.{Watcher}
use Rattle.simplex_stream.specs.Messages.{AreMessages}

-- these messages were recorded, judged as before, and what arose in them was noted
pub record WatchesMore {S D C P G : Type 0} (rules : Judging → Rules S D C P G) (messages : List (Activity S D C P G))
    (old new : Watcher S D P G) : Type 0 where
  pub records : RecordsMore rules messages old.recorder new.recorder
  pub sounds : SoundsMore (rules old.recorder.judging) messages old.recorder.detector old.alarm new.alarm

-- the auditor of a listener
abbrev pub auditor_of : {S D P G : Type 0} → Listener S D P G → Auditor S D P G
auditor_of listener = listener.auditor

-- A listener of these committees has heard a stream, and told something of it: its auditor stands for the stream from a floor
-- on, and what it told and what it did not tell yet is what arose there.
pub record HearsFrom {S D C P G : Type 0} (floor : Round) (basis : Schedule S → Basis S D C P G) (committees : Schedule S)
    (listener : Listener S D P G) (stream : List ℕ) (told : Told D G) : Type 0 where
  pub stands : StandsFrom floor basis committees (auditor_of listener) stream
  pub sounds : (messages : List (Activity S D C P G)) (rest : List ℕ) →
      AreMessages (basis committees).format stream messages rest →
      Sounds (basis_from floor (basis committees)).rules messages told listener.alarm

-- What is told now was not told before, and with what was told before it is exactly what arose in the stream from the floor on:
-- the evidence, each once, and the splits, each as often as it changed. So nothing is left to tell.
pub record TellsRest {S D C P G : Type 0} (floor : Round) (basis : Schedule S → Basis S D C P G) (committees : Schedule S)
    (stream : List ℕ) (told : Told D G) (news : News S D P G) (listener : Listener S D P G) : Type 0 where
  pub hears : HearsFrom floor basis committees listener stream (told_then told news)
  pub evidence : (messages : List (Activity S D C P G)) (rest : List ℕ) →
      AreMessages (basis committees).format stream messages rest →
      IsEachOnce (basis_from floor (basis committees)).rules.eq
      (valid_votes (basis_from floor (basis committees)).rules messages) (told_then told news).evidence
  pub splits : (messages : List (Activity S D C P G)) (rest : List ℕ) →
      AreMessages (basis committees).format stream messages rest →
      (told_then told news).splits ≡ splits_arising (basis_from floor (basis committees)).rules [] messages
