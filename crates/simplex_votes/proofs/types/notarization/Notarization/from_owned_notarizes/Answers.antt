use Rattle.simplex_votes.proofs.types.notarization.Notarization.from_owned_notarizes.Goals as goal

pub returns-clause-readable : goal.returns-clause-readable
returns-clause-readable g c = rw (← c.as_slice.ensures.value) c.from_notarizes.ensures.readable
