use Rattle.std.proofs.Common.{sym}
use Rattle.simplex_evidence.proofs.GapLemmas.{item_read, item_in_gap}
use Rattle.simplex_evidence.proofs.sorted.SortedList.get.Goals as goal

pub returns-in-Ok : goal.returns-in-Ok
returns-in-Ok g c =
    rw (← c.self.view_is)
    (sym (item_read g.T.Keyed.key_of _ c.self.invariant _ _ _ (rw c.deref.ensures.value at c.in-Ok.ensures.found.0)
    c.index.ensures (rw c.deref.ensures.value at (c.in-Ok.ensures.found.1 c.index.result.now))))

pub returns-in-Err : goal.returns-in-Err
returns-in-Err g c =
    rw (← c.self.view_is, ← c.deref.ensures.value) (sym (item_in_gap g.T.Keyed.key_of _ _ _ c.in-Err.ensures.gap))
