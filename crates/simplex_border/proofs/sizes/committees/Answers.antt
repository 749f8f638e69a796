use Rattle.std.proofs.Common.{Err, ap}
use Rattle.simplex_border.proofs.SizeLemmas.{refused, some_epochs}
use Rattle.simplex_border.proofs.sizes.committees.Goals as goal

pub returns-in-Err-clause-none : goal.returns-in-Err-clause-none
returns-in-Err-clause-none g c = λ _.
    refused c.args.epochs.now c.args.sizes.now c.in_ok-pairs.pairs.items c.in-Err.field-0 c.in_ok-pairs.ensures
    (some_epochs c.args.epochs.now c.if-is_empty.ensures) (λ e. c.in-Err.ensures.empty.0 (ap Err e))
    (λ e. c.in-Err.ensures.unordered.0 (ap Err e))
