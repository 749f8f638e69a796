-- Messages that are watched one after another.
use Rattle.std.proofs.Common.{List, [], ◌∷◌, ◌++◌, sym, subst, append_assoc, append-nil}
use Rattle.simplex_evidence.specs.declared.types.activity.Activity.{Activity}
use Rattle.simplex_alarm.specs.Alarm.{Sounds, SoundsMore}
use Rattle.simplex_rules.specs.Rules.{Rules}
use Rattle.simplex_rules.specs.declared.judging.Judging.{Judging}
use Rattle.simplex_audit.specs.Listening.{WatchesMore}
use Rattle.simplex_audit.specs.RecordingLaws.{records_none, records_more}
use Rattle.simplex_audit.specs.declared.listener.Watcher.{Watcher}

module _ {S D C P G : Type 0} (rules : Judging → Rules S D C P G) where
  -- no message was watched
  pub watches_none : (state : Watcher S D P G) → WatchesMore rules [] state state
  watches_none state = record {
    records = records_none rules state.recorder;
    sounds = λ messages told l holds sounds.
        subst (λ (ms : List (Activity S D C P G)). Sounds (rules state.recorder.judging) ms told state.alarm)
        (sym (append-nil messages)) sounds;
  }

  -- one message more was watched
  pub watches_more : (ms : List (Activity S D C P G)) (m : Activity S D C P G) (a b c : Watcher S D P G) →
      WatchesMore rules ms a b → WatchesMore rules (m ∷ []) b c → WatchesMore rules (ms ++ m ∷ []) a c
  watches_more ms m a b c before one =
      let by : Judging → Type 0 = λ judging. SoundsMore (rules judging) (m ∷ []) b.recorder.detector b.alarm c.alarm in
      let last = subst by before.records.judging one.sounds in
      record {
        records = records_more rules ms m a.recorder b.recorder c.recorder before.records one.records;
        sounds = λ messages told l holds sounds.
            subst (λ (ks : List (Activity S D C P G)). Sounds (rules a.recorder.judging) ks told c.alarm)
            (append_assoc messages ms (m ∷ []))
            (last (messages ++ ms) told l (before.records.recalls messages holds) (before.sounds messages told l holds sounds));
      }
