use Rattle.std.proofs.Common.{drop, map}
use Rattle.simplex_scheme.specs.Subject.{subject_value}
use Rattle.simplex_votes.specs.Votes.{vote_on}
use Rattle.simplex_places.specs.FirstPlaces.{carried_at}
use Rattle.simplex_places.proofs.PlaceLemmas.{IsOnTheWay}
use Rattle.simplex_places.proofs.first_places.note_all.Given as goal

abbrev pub invariant-attestations : goal.invariant-attestations
invariant-attestations g l =
    IsOnTheWay g.K.Ord.cmp g.K.PartialEq.eq g.K.Key.key_of (carried_at l.message_place)
    (map (vote_on (subject_value l.subject)) l.attestations) l.placed l.fn.places
    (map (vote_on (subject_value l.subject)) (drop l.attestation-index l.attestations)) l.others l.places
