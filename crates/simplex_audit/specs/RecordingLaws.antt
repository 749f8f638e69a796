-- Messages that are recorded one after another.
use Rattle.std.proofs.Common.{List, [], ◌∷◌, ◌++◌, refl, subst, ◌∙◌}
use Rattle.simplex_evidence.specs.declared.types.activity.Activity.{Activity}
use Rattle.simplex_detector.specs.Detector.{RecallsMore}
use Rattle.simplex_detector.specs.DetectorLaws.{recalls_none, recalls_on}
use Rattle.simplex_rules.specs.Rules.{Rules}
use Rattle.simplex_rules.specs.declared.judging.Judging.{Judging}
use Rattle.simplex_audit.specs.Recording.{RecordsMore}
use Rattle.simplex_audit.specs.declared.reading.Recorder.{Recorder}

module _ {S D C P G : Type 0} (rules : Judging → Rules S D C P G) where
  -- no message was recorded
  pub records_none : (state : Recorder S D P G) → RecordsMore rules [] state state
  records_none state = record { judging = refl; recalls = recalls_none (rules state.judging) state.detector }

  -- one message more was recorded
  pub records_more : (ms : List (Activity S D C P G)) (m : Activity S D C P G) (a b c : Recorder S D P G) →
      RecordsMore rules ms a b → RecordsMore rules (m ∷ []) b c → RecordsMore rules (ms ++ m ∷ []) a c
  records_more ms m a b c before one =
      let by : Judging → Type 0 = λ judging. RecallsMore (rules judging) (m ∷ []) b.detector c.detector in
      record {
        judging = one.judging ∙ before.judging;
        recalls = recalls_on (rules a.judging) ms (m ∷ []) a.detector b.detector c.detector before.recalls
            (subst by before.judging one.recalls);
      }
