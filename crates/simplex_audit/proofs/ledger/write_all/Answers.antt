use Rattle.simplex_audit.proofs.StoreLemmas.{one_more, none_left}
use Rattle.simplex_audit.proofs.ledger.write_all.Invariants.{encoded}
use Rattle.simplex_audit.proofs.ledger.write_all.Goals as goal

pub loop-item-preserved : goal.loop-item-preserved
loop-item-preserved g c =
    one_more (encoded g) c.args.evidence.now c.loop-item.item-index c.item-item.result c.loop-item.bytes.items
    c.write.new.buf.items c.loop-item-test.true c.item-item.is c.loop-item.invariant c.in_ok-write.ensures

pub returns : goal.returns
returns g c =
    none_left (encoded g) c.args.evidence.now c.loop-item.item-index c.loop-item.bytes.items c.loop-item-test.false
    c.loop-item.invariant
