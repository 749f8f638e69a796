use Rattle.simplex_lead.proofs.elector.round_robin.RoundRobinConfig.build.Goals as goal

pub returns-clause-participants : goal.returns-clause-participants
returns-clause-participants g c = rw c.len.ensures at c.build_for.ensures.participants

pub returns-clause-single : goal.returns-clause-single
returns-clause-single g c = rw c.len.ensures at c.build_for.ensures.single

pub returns-clause-once : goal.returns-clause-once
returns-clause-once g c = rw c.len.ensures at c.build_for.ensures.once
