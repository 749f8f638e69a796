use Rattle.simplex_audit.proofs.StoreLemmas.{if_ok, stored}
use Rattle.simplex_audit.proofs.ledger.store_stream.Goals as goal

pub returns : goal.returns
returns g c =
    if_ok _ _ (λ bytes encoded.
    let audit = c.in_ok-found.ensures.audit in
    let is = audit.report_is in
    stored _ c.in_ok-found.ensures.determined c.in_ok-found.ensures.single c.args.stream.now bytes.items
    c.in_ok-found.found.evidence.items c.deref.result.now
    (record {
      messages = is.messages;
      rest = is.rest;
      are_messages = is.are_messages;
      evidence_is = is.evidence_is;
      names = audit.names is.messages is.rest is.are_messages;
    })
    c.deref.ensures.value encoded audit.again.stream audit.again.evidence)
    c.write_all.result c.write_all.ensures
