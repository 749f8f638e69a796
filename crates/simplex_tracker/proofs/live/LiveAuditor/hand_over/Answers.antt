use Rattle.std.proofs.Common.{map, ap}
use Rattle.simplex_rules.specs.Values.{evidence_value}
use Rattle.simplex_tracker.proofs.LiveLemmas.{follows_still}
use Rattle.simplex_tracker.proofs.live.LiveAuditor.hand_over.Goals as goal

pub returns-clause-follows : goal.returns-clause-follows
returns-clause-follows g c = follows_still _ c.args.self.now c.nothing.result

pub returns-clause-evidence : goal.returns-clause-evidence
returns-clause-evidence g c = ap (map evidence_value) c.nothing.ensures.evidence
