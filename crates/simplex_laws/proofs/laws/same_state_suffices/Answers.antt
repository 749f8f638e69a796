use Rattle.simplex_laws.proofs.InterchangeLemmas.{interchangeable, state-among, state-joined}
use Rattle.simplex_laws.proofs.laws.same_state_suffices.Goals as goal

pub returns-clause-among : goal.returns-clause-among
returns-clause-among g c rules l messages others before more same = state-among rules l messages others before more same

pub returns-clause-joined : goal.returns-clause-joined
returns-clause-joined g c rules l messages others more further same also =
    state-joined rules l messages others more further same also

pub returns-clause-interchangeable : goal.returns-clause-interchangeable
returns-clause-interchangeable g c rules messages others l same = interchangeable rules l messages others same
