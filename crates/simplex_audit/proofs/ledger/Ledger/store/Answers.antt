use Rattle.simplex_audit.proofs.StoreLemmas.{if_ok, stored}
use Rattle.simplex_rules.specs.Independence.{first_round}
use Rattle.simplex_audit.proofs.ledger.Ledger.store.Goals as goal

pub returns : goal.returns
returns g c =
    if_ok _ _ (λ bytes encoded committees stream fed.
    let audit = c.in_ok-report.ensures.audit committees stream fed in
    let is = audit.report_is in
    stored _ (c.in_ok-report.ensures.determined committees)
    (λ other. c.in_ok-report.ensures.single first_round committees stream other fed)
    stream bytes.items c.in_ok-report.report.evidence.items c.deref.result.now
    (record {
      messages = is.messages;
      rest = is.rest;
      are_messages = is.are_messages;
      evidence_is = is.evidence_is;
      names = audit.names is.messages is.rest is.are_messages;
    })
    c.deref.ensures.value encoded audit.again.stream audit.again.evidence)
    c.write_all.result c.write_all.ensures
