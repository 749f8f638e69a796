-- A stream in place of a stream: its messages without what was no news when it came.
use Rattle.std.specs.Prelude.{◌≡◌, ℕ, List, [], ◌++◌, length, Option}
use Rattle.std.specs.List.{flat_map}
use Rattle.simplex_evidence.specs.declared.types.activity.Activity.{Activity}
use Rattle.simplex_rules.specs.News.{FewAreKept, IsCompaction, compacted}
use Rattle.simplex_audit.specs.Basis.{Basis}
use Rattle.simplex_audit.specs.Report.{IsReport, evidence_in}
use Rattle.simplex_audit.specs.declared.audit.Report.{Report}
use Rattle.simplex_stream.specs.Fault.{IsFault}
use Rattle.simplex_stream.specs.Messages.{AreMessages}
use Rattle.simplex_stream.specs.declared.fault.Fault.{Fault}

-- Some bytes can stand for others: with any whole messages before them and any bytes behind them, the reports have the same
-- evidence and the same splits.
abbrev pub HaveSameReports : {S D C P G : Type 0} → Basis S D C P G → List ℕ → List ℕ → Type 0
HaveSameReports {S} {D} {C} {P} {G} basis bytes others =
    (before more : List ℕ) (messages : List (Activity S D C P G)) (a b : Report S D P G) →
    AreMessages basis.format before messages [] →
    IsReport basis (before ++ (bytes ++ more)) a → IsReport basis (before ++ (others ++ more)) b →
    (evidence_in a ≡ evidence_in b) × (a.splits.items ≡ b.splits.items)

-- Some bytes are what is kept of a stream, of which so many messages were read, up to its fault. They are whole messages: the
-- compaction of the stream's messages, which are messages of the stream and votes of them. Of each round they are few, they can
-- stand for all, and compacting them again changes nothing.
pub record IsCompacted {S D C P G : Type 0} (basis : Basis S D C P G) (stream bytes : List ℕ) (read : ℕ)
    (fault : Option Fault) : Type 0 where
  pub messages : List (Activity S D C P G)
  pub rest : List ℕ
  pub are_messages : AreMessages basis.format stream messages rest
  pub read_is : read ≡ length messages
  pub fault_is : IsFault basis.format.reading (length (flat_map basis.format.encoding messages)) rest fault
  pub kept : AreMessages basis.format bytes (compacted basis.rules messages) []
  pub can_stand : IsCompaction basis.rules messages
  pub few : FewAreKept basis.rules messages
  pub same_reports : HaveSameReports basis bytes (flat_map basis.format.encoding messages)
