use Rattle.simplex_tracker.proofs.LiveLemmas.{short_at, shortens}
use Rattle.simplex_tracker.proofs.live.LiveAuditor.shorten.Goals as goal

pub returns-clause-follows : goal.returns-clause-follows
returns-clause-follows g c = λ some.
    shortens _ c.args.self.now c.in_ok-log.log _ (rw c.deref.ensures.value at c.in_ok-log.ensures.stands) some

pub returns-clause-short : goal.returns-clause-short
returns-clause-short g c = short_at _ c.args.self.now c.in_ok-log.log.items c.in_ok-log.ensures.short
