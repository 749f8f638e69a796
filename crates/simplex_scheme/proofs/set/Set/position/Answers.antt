use Rattle.std.proofs.Common.{rules, refl, of_calls}
use Rattle.std.proofs.lemmas.Fn.{always_returns_same}
use Rattle.simplex_scheme.proofs.SetLemmas.{none_where_missed, found_where_met, met_of}
use Rattle.simplex_scheme.proofs.set.Set.position.Goals as goal

pub returns-clause-found : goal.returns-clause-found
returns-clause-found g c =
    let by = c.binary_search_by.ensures.position (λ one. g.K.Ordered.order one c.args.key.now)
    (always_returns_same _ _ _ (λ a r f k. search (rules, of_calls))) in
    let met = met_of _ _ c.binary_search_by.result by in
    rw (← c.self.view_is) (found_where_met g.K.Ordered.order (λ a b. refl) _ c.args.key.now c.binary_search_by.result _
    (rw c.deref.ensures.value at c.binary_search_by.ensures.bound) (rw c.deref.ensures.value at met) c.ok.ensures.value)

pub returns-clause-none : goal.returns-clause-none
returns-clause-none g c =
    let by = c.binary_search_by.ensures.position (λ one. g.K.Ordered.order one c.args.key.now)
    (always_returns_same _ _ _ (λ a r f k. search (rules, of_calls))) in
    rw (← c.self.view_is) (none_where_missed g.met.K.Ordered.total (λ a b. refl) _ c.self.invariant _ _ _
    (rw c.deref.ensures.value at by) c.ok.ensures.value)
