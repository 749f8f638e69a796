use Rattle.simplex_rules.proofs.RecordedLemmas.{recorded_are_slots, few_are_recorded}
use Rattle.simplex_laws.proofs.BoundLemmas.{few_votes}
use Rattle.simplex_laws.proofs.laws.few_votes_are_recorded.Goals as goal

pub returns-clause-slots : goal.returns-clause-slots
returns-clause-slots g c vs = recorded_are_slots g.D.PartialEq.eq g.met.D.Eq.laws vs

pub returns-clause-few : goal.returns-clause-few
returns-clause-few g c vs = few_are_recorded g.D.PartialEq.eq g.met.D.Eq.laws vs

pub returns-clause-round : goal.returns-clause-round
returns-clause-round g c rules messages l committees round = few_votes rules l round committees messages
