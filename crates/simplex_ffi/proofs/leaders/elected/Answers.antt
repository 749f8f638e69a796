use Rattle.std.proofs.Common.{refl}
use Rattle.simplex_ffi.proofs.leaders.elected.Goals as goal

pub returns-clause-leads : goal.returns-clause-leads
returns-clause-leads c = record {
  order = c.in_ok-elector.elector.order;
  order_is = rw c.in_ok-rotation.ensures.seed at c.in_ok-elector.ensures.order;
  leads =
      rw (c.get.ensures, c.elect.ensures.leader, c.in_ok-elector.ensures.terms, c.in_ok-rotation.ensures.terms, c.new.ensures)
      refl;
}
