use Rattle.simplex_tracker.proofs.LiveLemmas.{stands_held}
use Rattle.simplex_tracker.proofs.live.LiveAuditor.held.Goals as goal

pub returns-clause-stands : goal.returns-clause-stands
returns-clause-stands g c = stands_held _ c.args.self.now c.as_slice.result.now c.as_slice.ensures.value
