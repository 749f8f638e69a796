use Rattle.simplex_handle.specs.Standing.{Reporting}
use Rattle.simplex_handle.proofs.RepliesLemmas.{moves_48, moves_64, moves_96, moves_keyed}
use Rattle.simplex_handle.proofs.auditor.AnyAuditor.report.Goals as goal

pub returns-in-Vouched48-clause-reports : goal.returns-in-Vouched48-clause-reports
returns-in-Vouched48-clause-reports c = λ roster floor stream.
    moves_48 _ (Reporting floor stream c.args.buffer.now c.report.new.buffer c.report.new.summary c.report.result) floor
    stream _ c.in-Vouched48.live c.report.new.live
    c.in-Vouched48.is (λ committees. c.report.ensures.reports floor committees stream) roster

pub returns-in-Vouched64-clause-reports : goal.returns-in-Vouched64-clause-reports
returns-in-Vouched64-clause-reports c = λ roster floor stream.
    moves_64 _ (Reporting floor stream c.args.buffer.now c.report-in-Vouched64.new.buffer c.report-in-Vouched64.new.summary
    c.report-in-Vouched64.result) floor stream _ c.in-Vouched64.live c.report-in-Vouched64.new.live
    c.in-Vouched64.is (λ committees. c.report-in-Vouched64.ensures.reports floor committees stream) roster

pub returns-in-Vouched96-clause-reports : goal.returns-in-Vouched96-clause-reports
returns-in-Vouched96-clause-reports c = λ roster floor stream.
    moves_96 _ (Reporting floor stream c.args.buffer.now c.report-in-Vouched96.new.buffer c.report-in-Vouched96.new.summary
    c.report-in-Vouched96.result) floor stream _ c.in-Vouched96.live c.report-in-Vouched96.new.live
    c.in-Vouched96.is (λ committees. c.report-in-Vouched96.ensures.reports floor committees stream) roster

pub returns-in-Keyed-clause-reports : goal.returns-in-Keyed-clause-reports
returns-in-Keyed-clause-reports c = λ roster floor stream.
    moves_keyed _ (Reporting floor stream c.args.buffer.now c.report-in-Keyed.new.buffer c.report-in-Keyed.new.summary
    c.report-in-Keyed.result) floor stream _ c.in-Keyed.live c.report-in-Keyed.new.live
    c.in-Keyed.is (λ committees. c.report-in-Keyed.ensures.reports floor committees stream) roster
