use Rattle.std.proofs.Common.{arith, subst, sym}
use Rattle.simplex_monitor.specs.Holding.{Holds}
use Rattle.simplex_monitor.specs.Window.{floor_of}
use Rattle.simplex_monitor.proofs.HoldingLemmas.{holds_here}
use Rattle.simplex_monitor.proofs.MonitorLemmas.{taken_values}
use Rattle.simplex_monitor.proofs.monitor.Monitor.held.Goals as goal

pub returns-in-Some-clause-stands : goal.returns-in-Some-clause-stands
returns-in-Some-clause-stands g c start committees told stream listens =
    subst (Holds _ (floor_of c.args.self.now.watcher.window) listens.taken) (sym c.as_slice.ensures.value)
    (holds_here _ (floor_of c.args.self.now.watcher.window) listens.taken c.args.self.now.watcher.held c.in-Some.held
    c.in-Some.is (λ m. omega arith) (taken_values _ c.args.self.now start committees told stream listens)
    listens.watches.holds.stands)
