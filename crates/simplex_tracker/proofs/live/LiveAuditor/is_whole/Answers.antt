use Rattle.simplex_tracker.specs.Tracking.{EndsWhole}
use Rattle.simplex_tracker.proofs.LiveLemmas.{says}
use Rattle.simplex_tracker.proofs.live.LiveAuditor.is_whole.Goals as goal

pub returns-in-Some-clause-whole : goal.returns-in-Some-clause-whole
returns-in-Some-clause-whole g c = λ floor committees stream h.
    says _ c.recall.new.self c.in-Some.tracker c.in-Some.is (λ f basis s. EndsWhole basis s c.is_whole.result)
    (λ f. c.is_whole.ensures f c.recall.new.self.committees) floor committees stream
    (c.recall.ensures.follows floor committees stream h)
