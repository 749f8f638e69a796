use Rattle.std.proofs.lemmas.Result.{IfOk-weaker}
use Rattle.simplex_rules.specs.Independence.{is_from}
use Rattle.simplex_rules.specs.declared.judging.Judging.TheVariants.{From}
use Rattle.simplex_monitor.specs.Window.{floor_of}
use Rattle.simplex_monitor.proofs.MonitorLemmas.{splits_retained}
use Rattle.simplex_monitor.proofs.monitor.Monitor.splits.Goals as goal

pub returns : goal.returns
returns g c =
    let floor = floor_of c.args.self.now.watcher.window in
    IfOk-weaker c.splits.result _ _ (λ splits gives start committees told stream listens.
    splits_retained _ _ c.args.self.now splits.items listens.committees_are
    (λ schedule. c.floors_rise.ensures.judged schedule floor) listens.taken
    (c.rounds_are_independent.ensures.committees _ (is_from floor) listens.members)
    (gives (From floor) listens.taken) listens.watches.holds.recalls) c.splits.ensures
