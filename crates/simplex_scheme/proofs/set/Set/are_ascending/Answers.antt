use Rattle.std.proofs.Common.{rules, of_calls}
use Rattle.std.specs.Ordering.{is_lt}
use Rattle.std.proofs.lemmas.Fn.{always_returns_same}
use Rattle.simplex_scheme.proofs.SetLemmas.{ascending_where_adjacent}
use Rattle.simplex_scheme.proofs.set.Set.are_ascending.Goals as goal

pub returns : goal.returns
returns g c =
    let less = always_returns_same _ _ _ (λ a r f k. search (rules, of_calls)) in
    ascending_where_adjacent g.met.K.Ord.total c.args.keys.now c.is_sorted_by.result
    (c.is_sorted_by.ensures.cases (λ x y. is_lt (g.K.Ord.cmp x y)) less)
