use Rattle.std.proofs.Common.{◌∙◌, sym}
use Rattle.simplex_tracker.proofs.LiveLemmas.{none_if, recalled}
use Rattle.simplex_tracker.proofs.live.LiveAuditor.recall.Goals as goal

pub returns-clause-follows : goal.returns-clause-follows
returns-clause-follows g c =
    recalled _ c.args.self.now c.in_ok-tracker.tracker (none_if _ (sym c.is_some.ensures ∙ c.if-is_some.false))
    (rw c.deref.ensures.value at c.in_ok-tracker.ensures)
