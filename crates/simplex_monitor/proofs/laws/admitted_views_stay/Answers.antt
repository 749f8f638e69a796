use Rattle.simplex_monitor.proofs.AdmittedLemmas.{admitted_ahead, admitted_stay}
use Rattle.simplex_monitor.proofs.laws.admitted_views_stay.Goals as goal

pub returns-clause-stay : goal.returns-clause-stay
returns-clause-stay c = admitted_stay

pub returns-clause-ahead : goal.returns-clause-ahead
returns-clause-ahead c = admitted_ahead
