use Rattle.simplex_audit.proofs.FloorLemmas.{stands_pruned}
use Rattle.simplex_audit.proofs.auditor.Auditor.prune.Goals as goal

pub returns-clause-stands : goal.returns-clause-stands
returns-clause-stands g c =
    stands_pruned _ c.args.self.now c.args.floor c.max-self.result c.prune.new.self c.max-self.ensures
    c.floors_rise.ensures.rise c.prune.ensures
