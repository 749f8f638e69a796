use Rattle.std.proofs.Common.{Ok, ap}
use Rattle.simplex_border.proofs.KeyLemmas.{decided}
use Rattle.simplex_border.proofs.keys.are_keys.Goals as goal

pub returns-clause-keys : goal.returns-clause-keys
returns-clause-keys c =
    rw c.is_some.ensures
    (decided _ c.args.epochs.now c.args.sizes.now c.args.keys.now c.in_ok-committees.field-0 c.in_ok-committees.ensures.some
    (λ is. c.in_ok-committees.ensures.none (ap Ok is)))
