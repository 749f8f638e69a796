use Rattle.simplex_handle.proofs.RepliesLemmas.{stays}
use Rattle.simplex_handle.proofs.replies.account.Goals as goal

pub returns-in_err-report-clause-stays : goal.returns-in_err-report-clause-stays
returns-in_err-report-clause-stays g c = λ floor committees stream h.
    stays _ c.args.live.now c.report.new.self c.report.ensures.news floor committees stream
    (c.report.ensures.follows floor committees stream h)

pub returns-in_err-lines-clause-stays : goal.returns-in_err-lines-clause-stays
returns-in_err-lines-clause-stays g c = λ floor committees stream h.
    stays _ c.args.live.now c.report.new.self c.report.ensures.news floor committees stream
    (c.report.ensures.follows floor committees stream h)

pub returns-clause-stays : goal.returns-clause-stays
returns-clause-stays g c = λ floor committees stream h.
    stays _ c.args.live.now c.report.new.self c.report.ensures.news floor committees stream
    (c.report.ensures.follows floor committees stream h)
