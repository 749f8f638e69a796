use Rattle.simplex_audit.proofs.ledger.Ledger.evidence.Goals as goal

pub returns : goal.returns
returns g c committees stream fed =
    let audit = c.in_ok-report.ensures.audit committees stream fed in
    let is = audit.report_is in
    record {
      messages = is.messages;
      rest = is.rest;
      are_messages = is.are_messages;
      evidence_is = is.evidence_is;
      names = audit.names is.messages is.rest is.are_messages;
    }
