use Rattle.simplex_votes.proofs.types.finalization.FinalizationRead.least_size.Goals as goal

pub returns : goal.returns
returns g c x more fits e = c.least_size.ensures (x.proposal, x.certificate) more fits e
