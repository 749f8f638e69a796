use Rattle.std.proofs.Common.{rules}
use Rattle.simplex_evidence.proofs.BisectionLemmas.{throughout}
use Rattle.simplex_evidence.proofs.types.bisection.+bisect.Goals as goal

-- the part is accepted, or one item alone
pub returns-then-accepted : goal.returns-then-accepted
returns-then-accepted g t c =
    let asked = c.verify_all-accepted in
    rw (c.fill.ensures.after (λ y is. is), c.requires.places)
    (throughout _ c.args.items.now asked.result asked.ensures (search (rules, c.then-accepted.either)))
