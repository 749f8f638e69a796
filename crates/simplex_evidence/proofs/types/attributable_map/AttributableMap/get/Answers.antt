use Rattle.std.proofs.Common.{sym, ap}
use Rattle.simplex_evidence.proofs.GapLemmas.{item_read, item_in_gap}
use Rattle.simplex_evidence.proofs.types.attributable_map.AttributableMap.get.Goals as goal

pub returns-in-Ok : goal.returns-in-Ok
returns-in-Ok g c =
    rw (← ap (λ m. m.items) c.self.view_is)
    (sym (item_read g.T.Attributable.signer_of _ c.self.invariant.0 _ _ _ (rw c.deref.ensures.value at c.in-Ok.ensures.found.0)
    c.index.ensures (rw c.deref.ensures.value at (c.in-Ok.ensures.found.1 c.index.result.now))))

pub returns-in-Err : goal.returns-in-Err
returns-in-Err g c =
    rw (← ap (λ m. m.items) c.self.view_is, ← c.deref.ensures.value)
    (sym (item_in_gap g.T.Attributable.signer_of _ _ _ c.in-Err.ensures.gap))
