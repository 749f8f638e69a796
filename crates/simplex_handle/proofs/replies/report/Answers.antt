use Rattle.std.proofs.Common.{refl}
use Rattle.simplex_handle.proofs.RepliesLemmas.{put_status}
use Rattle.simplex_handle.proofs.replies.report.Goals as goal

pub returns-in_default-clause-reports : goal.returns-in_default-clause-reports
returns-in_default-clause-reports g c = λ floor committees stream h. record {
  stays = c.account.ensures.stays floor committees stream h;
  reported = λ not. absurd (not refl);
}

pub returns-clause-reports : goal.returns-clause-reports
returns-clause-reports g c = λ floor committees stream h. record {
  stays = c.account.ensures.stays floor committees stream h;
  reported = λ _. record {
    report = c.in-Ok.report;
    report_is = c.in-Ok.ensures.report floor committees stream h;
    summary_is = c.write_report.ensures.summary;
    text_is = c.write_report.ensures.text;
  };
}

pub returns-clause-memory : goal.returns-clause-memory
returns-clause-memory g c = λ is. absurd (c.write_report.ensures.status.1 is)

pub returns-clause-status : goal.returns-clause-status
returns-clause-status g c = put_status _ _ _ c.in-Ok.report.fault _ c.write_report.ensures.text
