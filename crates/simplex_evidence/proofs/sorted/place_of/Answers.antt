use Rattle.std.proofs.Common.{rules}
use Rattle.std.proofs.lemmas.List.Sorted.{answers_always}
use Rattle.simplex_evidence.proofs.GapLemmas.{searched}
use Rattle.simplex_evidence.proofs.sorted.place_of.Goals as goal

pub returns : goal.returns
returns g c =
    let facts = c.binary_search_by_key.ensures in
    let by_key = facts.position g.T.Keyed.key_of (answers_always _ _ _ (λ f a r h called. search rules)) in
    searched g.T.Keyed.key_of c.args.items.now c.requires c.args.key c.binary_search_by_key.result facts.bound by_key
