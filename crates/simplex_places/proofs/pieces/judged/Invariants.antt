use Rattle.std.proofs.Common.{◌≡◌, take}
use Rattle.simplex_scheme.specs.Committees.{committee_of, size_by}
use Rattle.simplex_places.specs.Pieces.{is_judged}
use Rattle.simplex_places.specs.Suspects.{passing_of}
use Rattle.simplex_places.proofs.pieces.judged.Given as goal

abbrev pub invariant-places : goal.invariant-places
invariant-places g l =
    l.found.items ≡ passing_of (is_judged l.floor
    (λ epoch. size_by g.S.CertificateScheme.keys (committee_of l.committees epoch))) (take l.place-index l.places)
