use Rattle.simplex_monitor.proofs.WatchingLemmas.{prunes_to}
use Rattle.simplex_monitor.proofs.watcher.Watcher.prune.Goals as goal

pub returns-clause-holds : goal.returns-clause-holds
returns-clause-holds g c committees =
    prunes_to _ (c.floors_rise.ensures.rise _) c.rounds_are_independent.ensures.state c.args.floor c.args.self.now
    c.prune.new.self c.prune-2.new.self c.prune.ensures c.prune-2.ensures
