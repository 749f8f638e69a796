use Rattle.simplex_handle.proofs.RepliesLemmas.{at_some}
use Rattle.simplex_handle.proofs.auditor.vouched.Goals as goal

pub returns-in_ok-new-in-Some-clause-some : goal.returns-in_ok-new-in-Some-clause-some
returns-in_ok-new-in-Some-clause-some g c = (
  c.in-Some.committees,
  at_some _ _ _ c.in-Some.is c.in_ok-committees.ensures.some,
  record { follows = c.in_ok-new-in-Some.ensures.follows; waits = c.in_ok-new-in-Some.ensures.waits },
)
