use Rattle.std.proofs.Common.{rules, ap, sym, ◌∙◌}
use Rattle.std.specs.Option.{option_copied}
use Rattle.std.proofs.lemmas.List.Sorted.{answers_always}
use Rattle.simplex_evidence.proofs.GapLemmas.{beyond, searched}
use Rattle.simplex_evidence.proofs.types.attributable_map.place_of.Goals as goal

pub returns-in-Some-clause-gap : goal.returns-in-Some-clause-gap
returns-in-Some-clause-gap g c =
    beyond g.T.Attributable.signer_of c.args.items.now c.requires c.args.signer c.in-Some.last.now
    (sym c.last.ensures.value ∙ ap option_copied c.in-Some.is) (search rules)

pub returns-in_default : goal.returns-in_default
returns-in_default g c =
    let facts = c.binary_search_by_key.ensures in
    let by_key = facts.position g.T.Attributable.signer_of (answers_always _ _ _ (λ f a r h called. search rules)) in
    rw (← c.get-in_default.ensures) (searched g.T.Attributable.signer_of c.args.items.now c.requires c.get-in_default.result
    c.binary_search_by_key.result facts.bound by_key)
