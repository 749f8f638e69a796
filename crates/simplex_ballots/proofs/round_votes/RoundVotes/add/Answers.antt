use Rattle.std.proofs.Common.{ap, refl, length, [], ◌∙◌, ◌∷◌, ◌++◌, ◌≡◌}
use Rattle.simplex_scheme.specs.Subject.{subject_value}
use Rattle.simplex_votes.specs.Votes.{vote_on}
use Rattle.simplex_ballots.specs.declared.placed.Placed.{Placed}
use Rattle.simplex_ballots.specs.declared.round_votes.RoundVotes.{RoundVotes}
use Rattle.simplex_ballots.proofs.BallotLemmas.{own_place, takes}
use Rattle.simplex_ballots.proofs.round_votes.RoundVotes.add.Goals as goal

pub returns : goal.returns
returns g c other_is =
    let old = c.args.self.now in
    let a = c.args.attestation.now in
    let v = vote_on (subject_value c.args.subject.now) a in
    let after : RoundVotes g.row.S.Denot g.row.D.Denot g.row.S-PublicKey.Denot g.row.S-Signature.Denot = record {
      round = old.round;
      participants = old.participants;
      index = c.insert.new.self;
      ballots = c.push.new.self;
    } in
    let placed : Placed = record {
      signer = a.signer;
      kind = c.kind-kind.result;
      is_other = c.args.spot.now.is_other;
      place = c.in_ok-place.place;
    } in
    let placed_is : placed ≡ own_place v c.args.spot.now.is_other (length old.ballots) = λ i. record {
      signer = a.signer;
      kind = c.kind-kind.ensures i;
      is_other = c.args.spot.now.is_other;
      place = c.in_ok-place.ensures.place i;
    } in
    takes g.D.PartialEq.eq v old after c.args.spot.now.is_other refl refl
    (c.in_ok-place.ensures.pushed ∙ ap (λ p. old.ballots ++ (record { proposal = p; signature = a.signature }) ∷ [])
    c.proposal_in-proposal.ensures)
    other_is c.in_ok-insert.field-0 c.make_room.new.self placed c.in_ok-make_room.ensures placed_is
    c.in_ok-insert.ensures.added c.in_ok-insert.ensures.recorded c.in_ok-insert.ensures.taken
