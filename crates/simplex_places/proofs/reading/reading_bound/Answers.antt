use Rattle.simplex_places.proofs.reading.reading_bound.Goals as goal

pub returns-clause-lawful : goal.returns-clause-lawful
returns-clause-lawful g c = c.committees_are_lawful.ensures.lawful c.args.committees.now c.bound.ensures.some
