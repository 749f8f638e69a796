use Rattle.simplex_monitor.proofs.monitor.Monitor.above.Goals as goal

pub returns : goal.returns
returns g c start committees told stream listens = listens.watches.above_is
