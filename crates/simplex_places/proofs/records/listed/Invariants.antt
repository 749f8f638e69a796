use Rattle.std.proofs.Common.{◌≡◌, map, take}
use Rattle.simplex_rules.specs.Values.{evidence_value}
use Rattle.simplex_places.specs.Records.{record_by}
use Rattle.simplex_places.proofs.records.listed.Given as goal

abbrev pub invariant-evidence : goal.invariant-evidence
invariant-evidence g l =
    l.found.items ≡ map (λ e. record_by g.K.Ord.cmp g.K.Key.key_of l.places (evidence_value e)) (take l.item-index l.evidence)
