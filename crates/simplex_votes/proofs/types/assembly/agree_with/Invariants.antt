use Rattle.std.proofs.Common.{◌≡◌, take}
use Rattle.std.specs.Prelude.{All}
use Rattle.simplex_votes.proofs.types.assembly.agree_with.Given as goal

abbrev pub invariant-votes : goal.invariant-votes
invariant-votes g l = All (λ v. g.V.Attested.subject_of v ≡ g.V.Attested.subject_of l.fn.first) (take l.vote-index l.fn.votes)
