use Rattle.simplex_monitor.specs.Window.{floor_of}
use Rattle.simplex_monitor.proofs.RoundOrder.{at_most_trans}
use Rattle.simplex_monitor.proofs.window.Window.advance.Goals as goal

pub returns-then-finalizes-clause-rises : goal.returns-then-finalizes-clause-rises
returns-then-finalizes-clause-rises c start certified finalized ordered is =
    at_most_trans (floor_of c.args.self.now) (floor_of c.certify.new.self) (floor_of c.finalize.new.self)
    (c.certify.ensures.rises start certified finalized ordered is) c.finalize.ensures.rises
