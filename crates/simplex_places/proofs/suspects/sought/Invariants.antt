use Rattle.std.proofs.Common.{◌≡◌, take}
use Rattle.simplex_scheme.specs.Committees.{committee_of, size_by}
use Rattle.simplex_places.specs.Suspects.{sought_of, suspected_by}
use Rattle.simplex_places.proofs.suspects.sought.Given as goal

abbrev pub invariant-places : goal.invariant-places
invariant-places g l =
    l.found.items ≡ sought_of (suspected_by l.suspects)
    (λ epoch. size_by g.S.CertificateScheme.keys (committee_of l.committees epoch)) (take l.place-index l.places)
