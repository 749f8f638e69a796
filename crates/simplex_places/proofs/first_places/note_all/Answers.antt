use Rattle.std.proofs.Common.{map}
use Rattle.simplex_scheme.specs.Subject.{subject_value}
use Rattle.simplex_votes.specs.Votes.{vote_on}
use Rattle.simplex_places.specs.FirstPlaces.{carried_at}
use Rattle.simplex_places.proofs.PlaceLemmas.{at_the_end, on_the_way}
use Rattle.simplex_places.proofs.first_places.note_all.Goals as goal

pub attestations-preserved : goal.attestations-preserved
attestations-preserved g c =
    let cast = vote_on {S = g.row.S.Denot} {P = g.row.S-PublicKey.Denot} (subject_value c.args.subject.now) in
    let all = c.args.attestations.now in
    on_the_way g.K.Ord.cmp g.K.PartialEq.eq g.K.Key.key_of (carried_at c.args.message_place) cast (map cast all)
    c.args.placed.now c.args.places.now all c.attestations.attestation-index c.attestation-item.result
    c.attestations.others.now c.note_vote-others.result.now c.attestations.places c.note_vote-others.new.places
    c.attestations-test.true c.attestation-item.is c.attestations.invariant c.note_vote-others.ensures.noted
    c.note_vote-others.ensures.behind

pub returns : goal.returns
returns g c =
    let cast = vote_on {S = g.row.S.Denot} {P = g.row.S-PublicKey.Denot} (subject_value c.args.subject.now) in
    let all = c.args.attestations.now in
    at_the_end g.K.Ord.cmp g.K.PartialEq.eq g.K.Key.key_of (carried_at c.args.message_place) cast (map cast all)
    c.args.placed.now c.args.places.now all c.attestations.attestation-index c.attestations.others.now
    c.attestations.places c.attestations-test.false c.attestations.invariant
