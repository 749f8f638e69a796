use Rattle.simplex_audit.proofs.ListenerLemmas.{hears_pruned}
use Rattle.simplex_audit.proofs.listener.Listener.prune.Goals as goal

pub returns-clause-hears : goal.returns-clause-hears
returns-clause-hears g c =
    hears_pruned _ c.args.self.now c.prune.new.self c.prune-2.new.self c.args.floor c.floors_rise.ensures.rise
    c.prune.ensures.stands c.prune-2.ensures
