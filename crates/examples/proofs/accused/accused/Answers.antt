use Rattle.std.proofs.Common.{◌≡◌, subst, ℕ, List}
use Rattle.std.specs.Prelude.{map}
use Rattle.simplex_base.specs.Positions.{Round}
use Rattle.simplex_schemes.specs.Plain.{PlainScheme}
use Rattle.simplex_schemes.specs.PlainCommittee.{IsPlainCommittee}
use Rattle.simplex_scheme.specs.Committees.{Schedule, Every}
use Rattle.simplex_audit.specs.Basis.{Basis}
use Rattle.simplex_audit.specs.Report.{IsReport}
use Rattle.simplex_audit.specs.declared.audit.Report.{Report}
use Rattle.examples.specs.Accused.{AreAccused, round_and_signer}
use Rattle.examples.proofs.accused.accused.Goals as goal

-- whom the report accuses under this committee
are_accused : {C : Type 0} (basis : Schedule PlainScheme → Basis PlainScheme (List ℕ) C (List ℕ) (List ℕ)) (namespace : List ℕ)
    (keys : List (List ℕ)) (stream : List ℕ) (accused : List (Round × ℕ))
    (committee : PlainScheme) (committees : Schedule PlainScheme) (report : Report PlainScheme (List ℕ) (List ℕ) (List ℕ)) →
    committees ≡ Every committee →
    IsPlainCommittee namespace keys committee → IsReport (basis committees) stream report →
    accused ≡ map round_and_signer report.evidence.items →
    AreAccused basis namespace keys stream accused
are_accused basis namespace keys stream accused committee committees report every committee_is report_is accused_are = record {
  committee = committee;
  report = report;
  committee_is = committee_is;
  report_is = subst (λ (one : Schedule PlainScheme). IsReport (basis one) stream report) every report_is;
  accused_are = accused_are;
}

pub returns-clause-accused : goal.returns-clause-accused
returns-clause-accused c =
    are_accused _ _ _ _ _ c.in-Some.committee _ c.in_ok-report.report c.every-committees.ensures
    (rw c.in-Some.is at c.in_ok-committee.ensures.committee) c.in_ok-report.ensures.report
    (cc (c.in_ok-places.ensures))
