use Rattle.std.proofs.Common.{map, ap, ◌∙◌}
use Rattle.std.proofs.lemmas.List.{take_all}
use Rattle.simplex_rules.specs.Values.{evidence_value}
use Rattle.simplex_places.specs.Records.{record_by}
use Rattle.simplex_places.proofs.records.listed.Goals as goal

pub returns : goal.returns
returns g c =
    c.evidence.invariant ∙ ap (map (λ e. record_by g.K.Ord.cmp g.K.Key.key_of c.args.places.now (evidence_value e)))
    (take_all c.evidence.item-index c.args.evidence.now c.evidence-test.false)
