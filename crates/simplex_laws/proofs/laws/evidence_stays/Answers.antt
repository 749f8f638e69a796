use Rattle.simplex_laws.proofs.StayLemmas as lemmas
use Rattle.simplex_laws.proofs.laws.evidence_stays.Goals as goal

pub returns : goal.returns
returns g c rules messages more = lemmas.evidence_stays rules messages more
