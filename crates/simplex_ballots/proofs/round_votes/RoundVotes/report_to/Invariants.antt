use Rattle.simplex_rules.proofs.Prelude.{StayEncoded, evidence_value, fixed, flat_map, map, take, ◌++◌, ◌≡◌}
use Rattle.simplex_ballots.specs.Rounds.{found_at, slots}
use Rattle.simplex_ballots.proofs.round_votes.RoundVotes.report_to.Given as goal

abbrev pub invariant-signers : goal.invariant-signers
invariant-signers g l = record {
  appended : map evidence_value l.found.items ≡ map evidence_value l.fn.found.items
      ++ flat_map (λ signer. found_at g.D.PartialEq.eq (slots l.self signer)) (take l.signer-index l.signer-items);
  encoded : StayEncoded g.D.PartialEq.eq (fixed g.D.Fixed.SIZE g.D.Fixed.bytes_of g.D.Fixed.of_bytes)
      (fixed g.S.Signature.Fixed.SIZE g.S.Signature.Fixed.bytes_of g.S.Signature.Fixed.of_bytes)
      l.fn.found.items l.found.items;
}
