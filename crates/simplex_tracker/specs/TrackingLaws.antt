-- Messages that are seen one after another.
use Rattle.std.proofs.Common.{List, [], ◌∷◌, ◌++◌, refl, sym, subst, ◌∙◌, append_assoc, append-nil}
use Rattle.simplex_base.specs.Positions.{Round}
use Rattle.simplex_evidence.specs.declared.types.activity.Activity.{Activity}
use Rattle.simplex_alarm.specs.Alarm.{Sounds, SoundsMore}
use Rattle.simplex_detector.specs.Detector.{RecallsMore}
use Rattle.simplex_detector.specs.DetectorLaws.{recalls_none, recalls_on}
use Rattle.simplex_rules.specs.Rules.{Rules}
use Rattle.simplex_rules.specs.declared.judging.Judging.{Judging}
use Rattle.simplex_rules.specs.declared.judging.Judging.TheVariants.{From}
use Rattle.simplex_tracker.specs.Tracking.{SeesMore}
use Rattle.simplex_tracker.specs.declared.tracker.Sight.{Sight}

module _ {S D C P G : Type 0} (rules : Judging → Rules S D C P G) where
  -- no message was seen
  pub sees_none : (state : Sight S D P G) → SeesMore rules [] state state
  sees_none state = record {
    floor = refl;
    recalls = recalls_none (rules (From state.floor)) state.detector;
    sounds = λ messages told members recalls sounds.
        subst (λ (ms : List (Activity S D C P G)). Sounds (rules (From state.floor)) ms told state.alarm)
        (sym (append-nil messages)) sounds;
  }

  -- one message more was seen
  pub sees_more : (ms : List (Activity S D C P G)) (m : Activity S D C P G) (a b c : Sight S D P G) →
      SeesMore rules ms a b → SeesMore rules (m ∷ []) b c → SeesMore rules (ms ++ m ∷ []) a c
  sees_more ms m a b c before one =
      let judged = rules (From a.floor) in
      let recalls : RecallsMore judged (m ∷ []) b.detector c.detector =
      subst (λ (f : Round). RecallsMore (rules (From f)) (m ∷ []) b.detector c.detector) before.floor one.recalls in
      let sounds : SoundsMore judged (m ∷ []) b.detector b.alarm c.alarm =
      subst (λ (f : Round). SoundsMore (rules (From f)) (m ∷ []) b.detector b.alarm c.alarm) before.floor one.sounds in
      record {
        floor = one.floor ∙ before.floor;
        recalls = recalls_on judged ms (m ∷ []) a.detector b.detector c.detector before.recalls recalls;
        sounds = λ messages told members recalled heard.
            subst (λ (ks : List (Activity S D C P G)). Sounds judged ks told c.alarm) (append_assoc messages ms (m ∷ []))
            (sounds (messages ++ ms) told members (before.recalls messages recalled)
            (before.sounds messages told members recalled heard));
      }
