use Rattle.std.proofs.Common.{◌∙◌, sym, ap, length}
use Rattle.simplex_lead.proofs.Orders.{entries_long}
use Rattle.simplex_lead.proofs.elector.order.Order.len.Goals as goal

pub returns : goal.returns
returns c = sym (entries_long (λ order. order.items) _ _ c.self.invariant) ∙ ap length c.self.view_is
