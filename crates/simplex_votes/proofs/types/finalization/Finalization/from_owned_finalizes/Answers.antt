use Rattle.simplex_votes.proofs.types.finalization.Finalization.from_owned_finalizes.Goals as goal

pub returns-clause-readable : goal.returns-clause-readable
returns-clause-readable g c = rw (← c.as_slice.ensures.value) c.from_finalizes.ensures.readable
