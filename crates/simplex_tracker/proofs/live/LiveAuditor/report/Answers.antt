use Rattle.std.proofs.lemmas.Result.{IfOk-weaker}
use Rattle.simplex_audit.specs.Basis.{basis_from}
use Rattle.simplex_audit.specs.Report.{IsReport}
use Rattle.simplex_tracker.proofs.LiveLemmas.{says}
use Rattle.simplex_tracker.proofs.live.LiveAuditor.report.Goals as goal

pub returns-in-Some-clause-report : goal.returns-in-Some-clause-report
returns-in-Some-clause-report g c =
    IfOk-weaker c.report.result _ _
    (λ report is floor committees stream h.
    says _ c.recall.new.self c.in-Some.tracker c.in-Some.is
    (λ f basis s. IsReport (basis_from f basis) s report) is floor committees stream
    (c.recall.ensures.follows floor committees stream h)) c.report.ensures
