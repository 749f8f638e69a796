use Rattle.simplex_rules.proofs.Prelude.{on_ok_weaker}
use Rattle.simplex_ballots.proofs.round_votes.RoundVotes.report_signer.Goals as goal

pub returns-clause-encoded : goal.returns-clause-encoded
returns-clause-encoded g c =
    on_ok_weaker c.push_found-3.result
    (λ last old. last (c.in_ok-push_found-2.ensures.encoded (c.in_ok-push_found.ensures.encoded old)))
    c.push_found-3.ensures.encoded
