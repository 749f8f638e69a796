use Rattle.std.proofs.Common.{◌≡◌, sym, subst, ◌∙◌}
use Rattle.std.specs.List.{insert}
use Rattle.simplex_evidence.specs.VoteMap.{IsGap}
use Rattle.simplex_evidence.proofs.GapLemmas.{adds_only, item_in_gap, some_item}
use Rattle.simplex_evidence.proofs.sorted.SortedList.insert.Given.{Over}
use Rattle.simplex_evidence.proofs.sorted.SortedList.insert.Goals as goal

-- there is an item of its key
pub returns-in_default-clause-taken : goal.returns-in_default-clause-taken
returns-in_default-clause-taken g c _ =
    rw (← c.self.view_is, ← c.key-key.ensures)
    (some_item g.T.Keyed.key_of _ c.self.invariant _ _ c.args.item (rw c.deref.ensures.value at c.in_default.ensures.found.0)
    (rw c.deref.ensures.value at (c.in_default.ensures.found.1 c.args.item)))

-- it goes into its gap
gap_here : (g : Over) (c : goal.In_ok-insert g) → IsGap {X = g.row.T.Denot} g.T.Keyed.key_of c.self.inside.items.items
    (g.T.Keyed.key_of c.args.item) c.in-Err.place
gap_here g c = rw (← c.key-key.ensures, ← c.deref.ensures.value) c.in-Err.ensures.gap

pub returns-clause-added : goal.returns-clause-added
returns-clause-added g c _ =
    rw (← c.self.view_is, c.in_ok-insert.ensures.items)
    (adds_only g.T.Keyed.key_of c.self.inside.items.items c.in-Err.place c.args.item (gap_here g c))

pub returns-clause-fresh : goal.returns-clause-fresh
returns-clause-fresh g c _ =
    rw (← c.self.view_is) (item_in_gap g.T.Keyed.key_of c.self.inside.items.items _ c.in-Err.place (gap_here g c))
