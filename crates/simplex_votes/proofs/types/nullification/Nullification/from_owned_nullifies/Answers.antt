use Rattle.simplex_votes.proofs.types.nullification.Nullification.from_owned_nullifies.Goals as goal

pub returns-clause-readable : goal.returns-clause-readable
returns-clause-readable g c = rw (← c.as_slice.ensures.value) c.from_nullifies.ensures.readable
