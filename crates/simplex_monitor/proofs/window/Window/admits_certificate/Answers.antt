use Rattle.simplex_monitor.proofs.WindowLemmas.{retained}
use Rattle.simplex_monitor.proofs.window.Window.admits_certificate.Goals as goal

pub returns-clause-viewport : goal.returns-clause-viewport
returns-clause-viewport c same before =
    let is = retained c.args.self.now c.args.round same before in
    (λ true. is.0 (c.retains.ensures.0 true), λ held. c.retains.ensures.1 (is.1 held))
