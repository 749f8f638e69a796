use Rattle.std.proofs.Common.{◌∙◌, Some, ap, sym}
use Rattle.simplex_handle.specs.Standing.{Following, Pruning}
use Rattle.simplex_handle.proofs.RepliesLemmas.{handled, nothing_held, pruned_to}
use Rattle.simplex_handle.proofs.calls.prune.Goals as goal

pub returns-in_default-clause-prunes : goal.returns-in_default-clause-prunes
returns-in_default-clause-prunes c = λ roster floor stream.
    nothing_held _ (Following floor stream) roster _ c.in_default.ensures.taken

pub returns-clause-prunes : goal.returns-clause-prunes
returns-clause-prunes c = λ roster floor stream.
    let lowest = c.new-3.ensures ∙ (λ i. record { epoch = c.new.ensures i; view = c.new-2.ensures i }) in
    handled _ (Following floor stream) (Pruning floor stream (record { epoch = c.args.epoch; view = c.args.view })) roster _ _
    c.deref_mut.result.now _ (c.in-Some.ensures.taken ∙ ap Some (sym c.deref_mut.ensures.value)) c.put_back.ensures
    (λ h. pruned_to _ roster floor stream _ _ _ _ lowest (c.prune.ensures roster floor stream h))
