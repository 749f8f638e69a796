-- What a compactor does with messages.
use Rattle.std.specs.Prelude.{◌≡◌, All, ℕ, List, [], ◌++◌, length, Option}
use Rattle.std.specs.List.{flat_map}
use Rattle.simplex_base.specs.Positions.{Round}
use Rattle.simplex_evidence.specs.declared.types.activity.Activity.{Activity}
use Rattle.simplex_detector.specs.Detector.{Recalls}
use Rattle.simplex_rules.specs.News.{compacted, messages_kept}
use Rattle.simplex_rules.specs.Rules.{Rules}
use Rattle.simplex_rules.specs.declared.judging.Judging.{Judging}
use Rattle.simplex_rules.specs.declared.judging.Judging.TheVariants.{From}
use Rattle.simplex_scheme.specs.Committees.{Schedule}
use Rattle.simplex_audit.specs.Basis.{Basis}
use Rattle.simplex_audit.specs.Compaction.{IsCompacted}
use Rattle.simplex_audit.specs.Recording.{RecordsMore}
use Rattle.simplex_audit.specs.declared.compaction.Compactor.{Compactor}
use Rattle.simplex_stream.specs.Fault.{IsFault}
use Rattle.simplex_stream.specs.Messages.{AreMessages}
use Rattle.simplex_stream.specs.declared.fault.Fault.{Fault}

-- These messages were recorded, and what is kept of them behind any messages whose state was recorded was appended to what was
-- kept before. It can be encoded.
pub record CompactsMore {S D C P G : Type 0} (is_value : Activity S D C P G → Type 0) (encoding : Activity S D C P G → List ℕ)
    (rules : Judging → Rules S D C P G) (messages : List (Activity S D C P G)) (old new : Compactor S D P G) : Type 0 where
  pub records : RecordsMore rules messages old.recorder new.recorder
  pub kept : (before : List (Activity S D C P G)) → Recalls (rules old.recorder.judging) before old.recorder.detector →
      new.kept.items
      ≡ old.kept.items ++ flat_map encoding (messages_kept (rules old.recorder.judging) before messages)
  pub values : (before : List (Activity S D C P G)) → Recalls (rules old.recorder.judging) before old.recorder.detector →
      All is_value (messages_kept (rules old.recorder.judging) before messages)

-- nothing was recorded or kept yet, and nothing is judged below a floor
pub record StartsCompacting {S D C P G : Type 0} (floor : Round) (rules : Judging → Schedule S → Rules S D C P G)
    (compactor : Compactor S D P G) : Type 0 where
  pub judging : compactor.recorder.judging ≡ From floor
  pub recalls : (schedule : Schedule S) → Recalls (rules (From floor) schedule) [] compactor.recorder.detector
  pub kept : compactor.kept.items ≡ []

-- what is kept of a stream's messages is the stream's compaction, if it can be encoded
abbrev pub KeepsCompaction : {S D C P G : Type 0} → (Activity S D C P G → Type 0) → Basis S D C P G → Type 0
KeepsCompaction {S} {D} {C} {P} {G} is_value basis =
    (stream rest : List ℕ) (messages : List (Activity S D C P G)) (fault : Option Fault) →
    AreMessages basis.format stream messages rest → All is_value (compacted basis.rules messages) →
    IsFault basis.format.reading (length (flat_map basis.format.encoding messages)) rest fault →
    IsCompacted basis stream (flat_map basis.format.encoding (compacted basis.rules messages)) (length messages) fault
