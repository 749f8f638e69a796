use Rattle.std.proofs.Common.{◌∙◌, sym}
use Rattle.simplex_lead.specs.RotationLaws.{same_leader}
use Rattle.simplex_lead.proofs.elector.round_robin.RoundRobinElectorElector.elect.Goals as goal

pub returns-clause-same : goal.returns-clause-same
returns-clause-same g c term holds other epoch holds_other =
    c.leader.ensures.leader ∙ same_leader c.args.self.now c.args.round other term (sym epoch) holds holds_other
