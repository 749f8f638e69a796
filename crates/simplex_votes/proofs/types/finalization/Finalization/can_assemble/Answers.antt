use Rattle.simplex_votes.proofs.AssemblyLemmas.{can_in_order}
use Rattle.simplex_votes.proofs.types.finalization.Finalization.can_assemble.Goals as goal

pub returns-clause-ordered : goal.returns-clause-ordered
returns-clause-ordered g c stand =
    c.stand_together.ensures.1 (rw (c.len.ensures, c.participants.ensures.keys) (can_in_order _ _ _ _ stand))
