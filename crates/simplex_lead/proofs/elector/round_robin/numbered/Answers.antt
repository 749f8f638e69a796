use Rattle.std.proofs.Common.{refl, zero-add}
use Rattle.simplex_lead.proofs.Orders.{range_more}
use Rattle.simplex_lead.proofs.elector.round_robin.numbered.Goals as goal

pub loop-number-preserved : goal.loop-number-preserved
loop-number-preserved c =
    rw (c.in_ok-push.ensures.items, c.loop-number.invariant, range_more 0 c.loop-number.number, zero-add, c.new.ensures) refl
