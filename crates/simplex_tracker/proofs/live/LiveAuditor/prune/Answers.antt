use Rattle.simplex_tracker.proofs.LiveLemmas.{prunes, prunes_known}
use Rattle.simplex_tracker.proofs.live.LiveAuditor.prune.Goals as goal

pub returns-in-Some-clause-follows : goal.returns-in-Some-clause-follows
returns-in-Some-clause-follows g c =
    let old = c.args.self.now in
    prunes _ old c.args.floor _ _ c.floors_rise.ensures.rise c.rounds_are_independent.ensures.state c.max-self.ensures
    (prunes_known _ old.log.items old.tracker c.in-Some.tracker _ _ c.news-none.result c.args.floor c.in-Some.is
    c.prune.ensures.tracks c.news-none.ensures.tracks c.news-none.ensures.quiet)
