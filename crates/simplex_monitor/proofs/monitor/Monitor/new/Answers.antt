use Rattle.simplex_monitor.proofs.MonitorLemmas.{listens_as}
use Rattle.simplex_monitor.proofs.monitor.Monitor.new.Goals as goal

pub returns-clause-listens : goal.returns-clause-listens
returns-clause-listens g c =
    listens_as _ c.begin.result c.new-window.result _ c.args.committees.now _ _ c.new-window.ensures.value
    c.begin.ensures.listens
