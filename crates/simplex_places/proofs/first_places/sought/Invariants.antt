use Rattle.std.proofs.Common.{take}
use Rattle.std.specs.Prelude.{All}
use Rattle.simplex_rules.specs.Values.{evidence_value}
use Rattle.simplex_places.specs.FirstPlaces.{AreSought}
use Rattle.simplex_places.proofs.first_places.sought.Given as goal

abbrev pub invariant-evidence : goal.invariant-evidence
invariant-evidence g l =
    All (λ e. AreSought g.K.Ord.cmp g.K.Key.key_of l.places (evidence_value e)) (take l.item-index l.evidence)
