use Rattle.std.proofs.Common.{◌≡◌, map, ap, refl, rules}
use Rattle.simplex_rules.specs.Independence.{first_round}
use Rattle.simplex_rules.specs.Values.{evidence_value}
use Rattle.simplex_tracker.proofs.LiveLemmas.{begun}
use Rattle.simplex_tracker.proofs.live.LiveAuditor.begin.Goals as goal

pub returns-clause-follows : goal.returns-clause-follows
returns-clause-follows g c =
    let lowest : c.new-floor.result ≡ first_round = search rules in
    begun _ _ c.in_ok-tracker.tracker lowest c.new-2.ensures.items refl c.in_ok-tracker.ensures

pub returns-clause-evidence : goal.returns-clause-evidence
returns-clause-evidence g c = ap (map evidence_value) c.nothing.ensures.evidence
