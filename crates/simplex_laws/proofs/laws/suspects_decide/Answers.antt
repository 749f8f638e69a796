use Rattle.simplex_laws.proofs.AgreementLemmas.{suspects_decide}
use Rattle.simplex_laws.proofs.laws.suspects_decide.Goals as goal

pub returns : goal.returns
returns g c rules l = suspects_decide rules l
