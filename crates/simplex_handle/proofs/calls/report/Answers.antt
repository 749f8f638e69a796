use Rattle.std.proofs.Common.{◌∙◌, Some, ap, sym}
use Rattle.simplex_handle.specs.Standing.{Reporting, Following}
use Rattle.simplex_handle.proofs.RepliesLemmas.{handled, nothing_held}
use Rattle.simplex_handle.proofs.calls.report.Goals as goal

pub returns-in_default-clause-reports : goal.returns-in_default-clause-reports
returns-in_default-clause-reports c = λ roster floor stream.
    nothing_held _ (Following floor stream) roster _ c.in_default.ensures.taken

pub returns-clause-reports : goal.returns-clause-reports
returns-clause-reports c = λ roster floor stream.
    handled _ (Following floor stream) (Reporting floor stream c.args.buffer.now c.report-status.new.buffer
    c.report-status.new.summary c.report-status.result) roster _ _ c.deref_mut.result.now _
    (c.in-Some.ensures.taken ∙ ap Some (sym c.deref_mut.ensures.value)) c.put_back.ensures
    (c.report-status.ensures.reports roster floor stream)
