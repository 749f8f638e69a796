use Rattle.std.proofs.Common.{◌≡◌, take, map}
use Rattle.simplex_votes.proofs.types.assembly.attestations.Given as goal

abbrev pub invariant-votes : goal.invariant-votes
invariant-votes g l = l.attestations.items ≡ map g.V.Attested.attestation_of (take l.vote-index l.fn.votes)
