use Rattle.simplex_ffi.proofs.records.account_records.Goals as goal

pub returns : goal.returns
returns g c =
    let (audit, text) = c.in_ok-report.ensures in
    (audit, text, c.in_ok-found.ensures.records audit)
