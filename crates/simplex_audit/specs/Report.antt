-- What an audit of a stream returns.
use Rattle.std.specs.Prelude.{◌≡◌, ℕ, List, map, length}
use Rattle.std.specs.List.{flat_map}
use Rattle.simplex_base.specs.Positions.{Round}
use Rattle.simplex_evidence.specs.Contradiction.{Equivocation}
use Rattle.simplex_evidence.specs.declared.types.activity.Activity.{Activity}
use Rattle.simplex_rules.specs.Evidence.{IsEvidence}
use Rattle.simplex_rules.specs.Independence.{evidence_within, is_from, splits_within}
use Rattle.simplex_rules.specs.Rules.{valid_votes}
use Rattle.simplex_rules.specs.Splits.{AreSplits}
use Rattle.simplex_rules.specs.Values.{activity_of, evidence_value}
use Rattle.simplex_audit.specs.Basis.{Basis}
use Rattle.simplex_stream.specs.Messages.{AreMessages}
use Rattle.simplex_stream.specs.Fault.{IsFault}
use Rattle.simplex_audit.specs.declared.audit.Report.{Report}

-- the evidence of a report, each as two votes and their kind
abbrev pub evidence_in : {S D P G : Type 0} → Report S D P G → List (Equivocation D G)
evidence_in report = map evidence_value report.evidence.items

-- the evidence of a report as messages
abbrev pub as_messages : {S D C P G : Type 0} → Report S D P G → List (Activity S D C P G)
as_messages report = map activity_of report.evidence.items

-- The stream's messages were read up to its end or first fault, the evidence is that of their valid votes, and the splits
-- are those of the messages.
pub record IsReport {S D C P G : Type 0} (basis : Basis S D C P G) (stream : List ℕ) (report : Report S D P G) : Type 0 where
  pub messages : List (Activity S D C P G)
  pub rest : List ℕ
  pub are_messages : AreMessages basis.format stream messages rest
  pub read_is : report.read ≡ length messages
  pub fault_is : IsFault basis.format.reading (length (flat_map basis.format.encoding messages)) rest report.fault
  pub evidence_is : IsEvidence basis.rules.eq (valid_votes basis.rules messages) (evidence_in report)
  pub splits_are : AreSplits basis.rules messages report.splits.items

-- a report is another of the same messages, less what is below a floor
pub record IsPartFrom {S D P G : Type 0} (floor : Round) (whole report : Report S D P G) : Type 0 where
  pub read : report.read ≡ whole.read
  pub evidence : evidence_in report ≡ evidence_within (is_from floor) (evidence_in whole)
  pub splits : report.splits.items ≡ splits_within (is_from floor) whole.splits.items
