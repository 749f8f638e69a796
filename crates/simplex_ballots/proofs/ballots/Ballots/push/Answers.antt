use Rattle.std.specs.Prelude.{option_copied}
use Rattle.std.proofs.Common.{refl, ◌∙◌, ◌++◌, ◌∷◌, [], ap}
use Rattle.simplex_ballots.proofs.BallotLemmas.{pushed}
use Rattle.simplex_ballots.proofs.ballots.Ballots.push.Goals as goal

pub returns-clause-pushed : goal.returns-clause-pushed
returns-clause-pushed g c =
    pushed c.self.inside.choices.items c.place_among.new.choices.items c.self.inside.votes.items c.push_reserved.new.self.items
    (record { choice = c.in_ok-choice.choice; signature = c.args.signature.now }) c.args.self.now
    (record { proposal = option_copied c.args.proposal; signature = c.args.signature.now })
    c.self.invariant c.self.view_is c.in_ok-choice.ensures.others c.in_ok-choice.ensures.place refl
    (c.push_reserved.ensures.items ∙ ap (λ votes. votes
    ++ (record { choice = c.in_ok-choice.choice; signature = c.args.signature.now }) ∷ []) c.in_ok-make_room.ensures.items)
