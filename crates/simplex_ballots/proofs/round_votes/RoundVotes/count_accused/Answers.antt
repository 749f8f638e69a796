use Rattle.std.specs.Int.{from_bool}
use Rattle.simplex_rules.proofs.Prelude.{Bool, ap, arith, ℕ, ◌+◌, ◌∙◌}
use Rattle.simplex_ballots.specs.Rounds.{accuses, slots}
use Rattle.simplex_ballots.proofs.SignerLemmas.{at_most_one, counted_next}
use Rattle.simplex_ballots.proofs.round_votes.RoundVotes.count_accused.Goals as goal

-- one more participant was looked at
pub participants-preserved : goal.participants-preserved
participants-preserved g c =
    let test : ℕ → Bool = λ signer. accuses (slots c.args.self.now signer) in
    let one = c.from-count.ensures ∙ ap (λ b. from_bool b) (c.accuses.ensures ∙ ap test c.new.ensures) in
    record {
      counted = counted_next test c.participants.number c.args.participants c.participants.count
          (c.participants.count + c.from-count.result) _ c.participants-test.true (ap (λ n. c.participants.count + n) one)
          c.participants.invariant.counted;
      small = omega (arith, one, at_most_one (test c.participants.number), c.participants.invariant.small);
    }
