-- What a recorder does with messages.
use Rattle.std.specs.Prelude.{◌≡◌, List}
use Rattle.simplex_evidence.specs.declared.types.activity.Activity.{Activity}
use Rattle.simplex_detector.specs.Detector.{RecallsMore}
use Rattle.simplex_rules.specs.Rules.{Rules}
use Rattle.simplex_rules.specs.declared.judging.Judging.{Judging}
use Rattle.simplex_audit.specs.declared.reading.Recorder.{Recorder}

-- the detector recorded these messages, judged as before: `rules` gives the rules of a way to judge
pub record RecordsMore {S D C P G : Type 0} (rules : Judging → Rules S D C P G) (messages : List (Activity S D C P G))
    (old new : Recorder S D P G) : Type 0 where
  pub judging : new.judging ≡ old.judging
  pub recalls : RecallsMore (rules old.judging) messages old.detector new.detector
