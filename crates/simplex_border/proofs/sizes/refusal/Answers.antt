use Rattle.std.proofs.Common.{None, Some, sym, ◌∙◌, arith}
use Rattle.std.proofs.lemmas.Bool.{false≢true}
use Rattle.simplex_border.specs.declared.refusals.Refusal.TheVariants as refusals
use Rattle.simplex_border.proofs.RefusalLemmas.{epochs_fall, sizes_accepted, sizes_right}
use Rattle.simplex_border.proofs.SizeLemmas.{some_epochs, some_sizes}
use Rattle.simplex_border.proofs.sizes.refusal.Goals as goal

pub returns-then-not-are_ascending-clause-accepted : goal.returns-then-not-are_ascending-clause-accepted
returns-then-not-are_ascending-clause-accepted c =
    let epochs = c.args.epochs.now in
    let sizes = c.args.sizes.now in
    sizes_accepted epochs sizes (Some refusals.Epochs)
    (epochs_fall epochs sizes (some_epochs sizes c.if-is_empty.ensures)
    (omega (arith, c.if-sizes-max.false, c.max.ensures))
    (λ rising. false≢true (sym c.if-not-are_ascending.true ∙ c.are_ascending.ensures.1 rising)))

pub returns-clause-accepted : goal.returns-clause-accepted
returns-clause-accepted c =
    let epochs = c.args.epochs.now in
    let sizes = c.args.sizes.now in
    sizes_accepted epochs sizes None
    (sizes_right epochs sizes (some_epochs sizes c.if-is_empty.ensures)
    (omega (arith, c.if-sizes-max.false, c.max.ensures)) (c.are_ascending.ensures.0 c.if-not-are_ascending.false)
    (some_sizes sizes (sym c.contains.ensures.value ∙ c.if-contains.false)))
