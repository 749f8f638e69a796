use Rattle.simplex_laws.proofs.NewsLemmas as lemmas
use Rattle.simplex_laws.proofs.laws.votes_can_stand_alone.Goals as goal

pub returns : goal.returns
returns g c rules l = lemmas.votes_can_stand_alone rules l
