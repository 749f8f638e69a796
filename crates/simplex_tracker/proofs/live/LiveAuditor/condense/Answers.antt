use Rattle.std.proofs.lemmas.Result.{on_ok_weaker}
use Rattle.simplex_tracker.proofs.live.LiveAuditor.condense.Goals as goal

pub returns-clause-follows : goal.returns-clause-follows
returns-clause-follows g c = λ floor committees stream h.
    c.shorten.ensures.follows c.in_ok-recall.ensures.tracked floor committees stream
    (c.recall.ensures.follows floor committees stream h)

pub returns-clause-short : goal.returns-clause-short
returns-clause-short g c =
    on_ok_weaker c.shorten.result (λ short floor committees stream h.
    short floor committees stream (c.recall.ensures.follows floor committees stream h)) c.shorten.ensures.short
