use Rattle.simplex_ballots.specs.Rounds.{accuses, slots}
use Rattle.simplex_rules.proofs.Prelude.{count_by, range_with_len, ◌+◌, ◌-◌, ◌≡◌, ◌≤◌}
use Rattle.simplex_ballots.proofs.round_votes.RoundVotes.count_accused.Given as goal

-- those who are counted, and those who are left to count
abbrev pub invariant-participants : goal.invariant-participants
invariant-participants g l = record {
  counted : l.count + count_by (λ signer. accuses (slots l.self signer)) (range_with_len l.number (l.participants - l.number))
      ≡ count_by (λ signer. accuses (slots l.self signer)) (range_with_len 0 l.participants);
  small : l.count ≤ l.number;
}
