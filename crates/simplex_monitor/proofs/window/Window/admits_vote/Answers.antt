use Rattle.simplex_monitor.proofs.WindowLemmas.{admitted}
use Rattle.simplex_monitor.proofs.window.Window.admits_vote.Goals as goal

pub returns-clause-viewport : goal.returns-clause-viewport
returns-clause-viewport c same here before fits =
    let is = admitted c.args.self.now c.args.round same here before fits in
    (λ true. is.0 (c.takes_vote.ensures.0 true), λ held. c.takes_vote.ensures.1 (is.1 held))
