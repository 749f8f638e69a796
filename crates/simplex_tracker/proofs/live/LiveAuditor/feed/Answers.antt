use Rattle.simplex_tracker.proofs.LiveLemmas.{keeps, loses_between, takes_between}
use Rattle.simplex_tracker.proofs.live.LiveAuditor.feed.Goals as goal

-- what is known of the stream was not made again
pub returns-then-is_err-clause-kept : goal.returns-then-is_err-clause-kept
returns-then-is_err-clause-kept g c = λ _ floor committees stream h.
    keeps _ c.args.self.now c.recall.new.self c.recall.ensures.news floor committees stream
    (c.recall.ensures.follows floor committees stream h)

pub returns-in-Taken-clause-taken : goal.returns-in-Taken-clause-taken
returns-in-Taken-clause-taken g c = λ _ floor committees stream h.
    let takes = c.feed_tracked.ensures.taken c.in-Taken.is floor committees stream
    (c.recall.ensures.follows floor committees stream h) in
    takes_between _ c.args.self.now c.recall.new.self c.feed_tracked.new.self c.shorten_if_long.new.self floor committees
    stream c.args.piece.now c.recall.ensures.news c.shorten_if_long.ensures.news takes
    (c.shorten_if_long.ensures.follows (c.feed_tracked.ensures.tracked c.in-Taken.is) floor committees _ takes.follows)

pub returns-in_default-clause-kept : goal.returns-in_default-clause-kept
returns-in_default-clause-kept g c = λ not floor committees stream h.
    loses_between _ c.args.self.now c.recall.new.self c.feed_tracked.new.self floor committees stream c.recall.ensures.news
    (c.feed_tracked.ensures.kept not floor committees stream (c.recall.ensures.follows floor committees stream h))

pub returns-in_default-clause-over : goal.returns-in_default-clause-over
returns-in_default-clause-over g c = λ is floor committees stream h.
    c.feed_tracked.ensures.over is floor committees stream (c.recall.ensures.follows floor committees stream h)

pub returns-in_default-clause-long : goal.returns-in_default-clause-long
returns-in_default-clause-long g c = λ is floor committees stream h.
    c.feed_tracked.ensures.long is floor committees stream (c.recall.ensures.follows floor committees stream h)
