use Rattle.std.proofs.Common.{Err, Ok, ap, get_or, arith}
use Rattle.simplex_border.proofs.KeyLemmas.{never_refused, one_keys}
use Rattle.simplex_border.proofs.SizeLemmas.{no_epochs, some_epochs}
use Rattle.simplex_border.proofs.keys.committees.Goals as goal

pub returns-in-None-clause-none : goal.returns-in-None-clause-none
returns-in-None-clause-none c = λ _ are.
    c.in_ok-committee.ensures.none (ap Ok c.in-None.is)
    (one_keys c.args.epochs.now c.args.sizes.now c.args.keys.now (no_epochs c.args.epochs.now c.if-is_empty.ensures)
    (λ n is. omega (arith, c.type_inv.sizes 0, ap (λ ns. get_or ns 0 0) is)) are)

pub returns-in-Err-clause-none : goal.returns-in-Err-clause-none
returns-in-Err-clause-none c = λ _ are.
    let is = rw c.in-Some-2.is at c.in_ok-pairs.ensures.epochs in
    never_refused c.args.epochs.now c.args.sizes.now c.in-Some-2.pairs.items c.in-Err.field-0
    (some_epochs c.args.epochs.now c.if-is_empty.ensures) are.length_is.0 is (λ e. c.in-Err.ensures.empty.0 (ap Err e))
    (λ e. c.in-Err.ensures.unordered.0 (ap Err e))
