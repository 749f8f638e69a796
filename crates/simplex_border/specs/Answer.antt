-- What an audit returns to a caller that is not Rattle.
use Rattle.std.specs.Prelude.{◌≡◌, ◌⊎◌, ℕ, ◌<◌, ◌≤◌, List, ◌++◌, Option, Some, None, length, drop}
use Rattle.simplex_audit.specs.Basis.{Basis}
use Rattle.simplex_audit.specs.Guarantees.{IsAudit}
use Rattle.simplex_audit.specs.Run.{report_text}
use Rattle.simplex_stream.specs.declared.fault.Fault.{Fault}
use Rattle.simplex_audit.specs.declared.audit.Report.{Report}
use Rattle.simplex_border.specs.declared.answer.ReportSummary.{ReportSummary}

-- the status of a stream that was read whole, or that has a fault
abbrev pub ended_of : Option Fault → ℕ
ended_of None = 0
ended_of (Some fault) = 1

-- the offset of the fault, or 0 if there is none
abbrev pub place_of_fault : Option Fault → ℕ
place_of_fault None = 0
place_of_fault (Some fault) = fault.place

-- The numbers are those of a report, and of its text.
pub record IsSummary {S D P G : Type 0} (bytes_of : D → List ℕ) (report : Report S D P G)
    (summary : ReportSummary) : Type 0 where
  pub read_is : summary.read ≡ report.read
  pub evidence_is : summary.evidence ≡ length report.evidence.items
  pub splits_are : summary.splits ≡ length report.splits.items
  pub faulted_is : summary.faulted ≡ ended_of report.fault
  pub place_is : summary.fault_place ≡ place_of_fault report.fault
  pub length_is : summary.length ≡ length (report_text bytes_of report)

-- A text, or other items, is put at the start of a buffer, and what is behind it stays; or the buffer is too short and as
-- before, and the status is 4.
abbrev pub IsPut : {A : Type 0} → List A → List A → List A → ℕ → ℕ → Type 0
IsPut text before after status ended =
    ((length text ≤ length before) × (status ≡ ended) × (after ≡ text ++ drop (length text) before))
    ⊎ ((length before < length text) × (status ≡ 4) × (after ≡ before))

-- The stream was audited: the summary is that of its report, and the text of the report stands at the start of the buffer,
-- with 0 where the stream was read whole and 1 where it has a fault; or the buffer is too short and as before, with 4.
pub record IsAudited {S D C P G : Type 0} (basis : Basis S D C P G) (bytes_of : D → List ℕ) (stream before after : List ℕ)
    (summary : ReportSummary) (status : ℕ) : Type 0 where
  pub report : Report S D P G
  pub audit_is : IsAudit basis stream report
  pub summary_is : IsSummary bytes_of report summary
  pub text_is : IsPut (report_text bytes_of report) before after status (ended_of report.fault)
