use Rattle.std.proofs.Common.{ap, arith}
use Rattle.simplex_lead.proofs.Orders.{arranged_below}
use Rattle.simplex_lead.proofs.elector.round_robin.RoundRobinElector.leader.Goals as goal

pub returns-clause-member : goal.returns-clause-member
returns-clause-member g c =
    rw (← ap (λ m. m.order) c.self.view_is, c.get-2.ensures)
    (arranged_below _ _ _ 0 c.self.invariant.0 (omega (arith, c.len.ensures, c.self.invariant.1)))
