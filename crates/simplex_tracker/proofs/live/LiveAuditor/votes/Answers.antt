use Rattle.simplex_audit.specs.Basis.{basis_from}
use Rattle.simplex_tracker.specs.Tracking.{HasVotes}
use Rattle.simplex_tracker.proofs.LiveLemmas.{says}
use Rattle.simplex_tracker.proofs.live.LiveAuditor.votes.Goals as goal

pub returns-in-Some-clause-votes : goal.returns-in-Some-clause-votes
returns-in-Some-clause-votes g c = λ floor committees stream h.
    says _ c.recall.new.self c.in-Some.tracker c.in-Some.is
    (λ f basis s. HasVotes (basis_from f basis) s c.votes.result)
    (λ f. c.votes.ensures f c.recall.new.self.committees) floor committees stream
    (c.recall.ensures.follows floor committees stream h)
