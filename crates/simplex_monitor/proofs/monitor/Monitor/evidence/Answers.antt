use Rattle.std.proofs.lemmas.Result.{IfOk-weaker}
use Rattle.simplex_rules.specs.declared.judging.Judging.TheVariants.{From}
use Rattle.simplex_monitor.specs.Window.{floor_of}
use Rattle.simplex_monitor.proofs.MonitorLemmas.{evidence_retained}
use Rattle.simplex_monitor.proofs.monitor.Monitor.evidence.Goals as goal

pub returns : goal.returns
returns g c =
    let floor = floor_of c.args.self.now.watcher.window in
    IfOk-weaker c.evidence.result _ _ (λ found gives start committees told stream listens.
    evidence_retained _ _ listens.taken c.args.self.now _ (c.floors_rise.ensures.judged committees floor)
    (gives (From floor) committees listens.taken) listens.watches.holds.recalls) c.evidence.ensures.evidence
