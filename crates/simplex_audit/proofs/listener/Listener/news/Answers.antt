use Rattle.simplex_audit.proofs.ListenerLemmas.{hears_told}
use Rattle.simplex_audit.proofs.listener.Listener.news.Goals as goal

pub returns-clause-tells : goal.returns-clause-tells
returns-clause-tells g c = hears_told _ c.args.self.now c.take.new.self c.take.result c.take.ensures
