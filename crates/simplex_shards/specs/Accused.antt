-- Who is accused by streams with the same messages.
use Rattle.std.specs.Prelude.{◌≡◌, ℕ, List, map}
use Rattle.simplex_rules.specs.Accusation.{accused_by}
use Rattle.simplex_audit.specs.Basis.{Basis}
use Rattle.simplex_audit.specs.Report.{IsReport, evidence_in}
use Rattle.simplex_audit.specs.declared.audit.Report.{Report}

-- two reports accuse the same, in the same order, and have the same splits
pub record AreAlike {S D P G : Type 0} (report its : Report S D P G) : Type 0 where
  pub accused : map accused_by (evidence_in report) ≡ map accused_by (evidence_in its)
  pub splits : report.splits.items ≡ its.splits.items

-- so do the reports of two streams
abbrev pub AccuseSame : {S D C P G : Type 0} → Basis S D C P G → List ℕ → List ℕ → Type 0
AccuseSame {S} {D} {C} {P} {G} basis stream other =
    (report its : Report S D P G) → IsReport basis stream report → IsReport basis other its → AreAlike report its
