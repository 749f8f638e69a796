use Rattle.std.proofs.Common.{[]}
use Rattle.simplex_rules.specs.Independence.{first_round}
use Rattle.simplex_tracker.proofs.LiveLemmas.{begins}
use Rattle.simplex_tracker.proofs.live.LiveAuditor.new.Goals as goal

pub returns-in-Taken-clause-follows : goal.returns-in-Taken-clause-follows
returns-in-Taken-clause-follows g c =
    (c.feed.ensures.taken c.in-Taken.is first_round c.args.committees [] c.in_ok-live.ensures.follows).follows

pub returns-in-Taken-clause-waits : goal.returns-in-Taken-clause-waits
returns-in-Taken-clause-waits g c =
    begins _ c.in_ok-live.live c.feed.new.self c.args.committees c.args.held.now c.in_ok-live.ensures.evidence
    c.in_ok-live.ensures.splits
    (c.feed.ensures.taken c.in-Taken.is first_round c.args.committees [] c.in_ok-live.ensures.follows)
