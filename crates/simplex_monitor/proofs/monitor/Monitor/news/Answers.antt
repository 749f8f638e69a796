use Rattle.std.proofs.Common.{refl}
use Rattle.simplex_monitor.proofs.MonitorLemmas.{listens_told, tells_rest}
use Rattle.simplex_monitor.proofs.monitor.Monitor.news.Goals as goal

pub returns-clause-listens : goal.returns-clause-listens
returns-clause-listens g c = listens_told _ c.args.self.now c.take-news.new.self c.take-news.result c.take-news.ensures
    c.rounds_are_independent.ensures.arising

pub returns-clause-rest : goal.returns-clause-rest
returns-clause-rest g c start committees told stream listens =
    tells_rest _ listens.taken told c.take-news.result c.args.self.now _ refl c.take-news.ensures listens.watches.holds.sounds
