use Rattle.std.proofs.Common.{arith}
use Rattle.simplex_audit.proofs.AuditorLemmas.{read_at_once}
use Rattle.simplex_audit.proofs.AccusedLemmas.{if_ok}
use Rattle.simplex_audit.proofs.audit.audit_stream.Goals as goal

pub returns-clause-report : goal.returns-clause-report
returns-clause-report g c =
    let p = c.in_ok-detector.progress in
    let room = c.in_ok-detector.ensures.room in
    if_ok _ _ (λ report is.
    is c.args.judging c.args.stream.now p.rest.now (c.reading_bound-bound.ensures.committees_under c.args.judging) (omega arith)
    (read_at_once _ _ c.args.stream.now p.rest.now p.read p.stop c.new-detector.result c.in_ok-detector.detector
    (c.new-detector.ensures c.args.judging c.args.committees.now)
    (c.in_ok-detector.ensures.progress c.reading_bound-bound.ensures.value)))
    c.make_report.result c.make_report.ensures.report
