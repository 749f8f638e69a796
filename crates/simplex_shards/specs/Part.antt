-- The report of a part of the rounds.
use Rattle.std.specs.Prelude.{◌≡◌, ◌+◌, ◌==◌, ℕ, Bool, List, length}
use Rattle.std.specs.List.{flat_map}
use Rattle.simplex_base.specs.Positions.{Round}
use Rattle.simplex_stream.specs.Fault.{IsFault}
use Rattle.simplex_stream.specs.Messages.{AreMessages}
use Rattle.simplex_evidence.specs.declared.types.activity.Activity.{Activity}
use Rattle.simplex_detector.specs.Detector.{RecallsMore}
use Rattle.simplex_rules.specs.Evidence.{IsEvidence}
use Rattle.simplex_rules.specs.Independence.{evidence_within, in_rounds, of_rounds, splits_within}
use Rattle.simplex_rules.specs.Rules.{Rules, valid_votes}
use Rattle.simplex_rules.specs.Splits.{AreSplits}
use Rattle.simplex_audit.specs.Basis.{Basis}
use Rattle.simplex_audit.specs.Report.{evidence_in}
use Rattle.simplex_audit.specs.declared.audit.Report.{Report}
use Rattle.simplex_shards.specs.Cut.{class_under}
use Rattle.simplex_shards.specs.declared.part.PartRecorder.{PartRecorder}

-- the rounds of one class
abbrev pub is_class : (Round → ℕ) → ℕ → Round → Bool
is_class class i round = class round == i

-- A report of some messages in a part of the rounds: as many messages as are of these rounds, and the evidence and the splits
-- that all messages have if nothing of another round is valid.
pub record IsPartReport {S D C P G : Type 0} (basis : Basis S D C P G) (part : Round → Bool)
    (messages : List (Activity S D C P G)) (report : Report S D P G) : Type 0 where
  pub read_is : report.read ≡ length (of_rounds part messages)
  pub evidence_is : IsEvidence basis.rules.eq (valid_votes (in_rounds part basis.rules) messages) (evidence_in report)
  pub splits_are : AreSplits (in_rounds part basis.rules) messages report.splits.items

-- a report of a stream in a part of the rounds, up to the end of the stream or its first fault
pub record IsPartAudit {S D C P G : Type 0} (basis : Basis S D C P G) (part : Round → Bool) (stream : List ℕ)
    (report : Report S D P G) : Type 0 where
  pub messages : List (Activity S D C P G)
  pub rest : List ℕ
  pub are_messages : AreMessages basis.format stream messages rest
  pub report_is : IsPartReport basis part messages report
  pub fault_is : IsFault basis.format.reading (length (flat_map basis.format.encoding messages)) rest report.fault

-- a report has of another's evidence and splits those of a part of the rounds
pub record IsPartOf {S D P G : Type 0} (part : Round → Bool) (whole report : Report S D P G) : Type 0 where
  pub evidence : evidence_in report ≡ evidence_within part (evidence_in whole)
  pub splits : report.splits.items ≡ splits_within part whole.splits.items

-- ---- what a recorder of one class does

-- which rounds it records
abbrev pub part_of : {S D P G : Type 0} → PartRecorder S D P G → Round → Bool
part_of recorder = is_class (class_under recorder.cut) recorder.class

-- of these messages those of its class were recorded and counted
pub record RecordsPart {S D C P G : Type 0} (rules : Rules S D C P G) (messages : List (Activity S D C P G))
    (old new : PartRecorder S D P G) : Type 0 where
  pub cut_is : new.cut ≡ old.cut
  pub class_is : new.class ≡ old.class
  pub read_is : new.read ≡ old.read + length (of_rounds (part_of old) messages)
  pub recalls : RecallsMore rules (of_rounds (part_of old) messages) old.detector new.detector
