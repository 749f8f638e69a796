use Rattle.std.proofs.Common.{◌∙◌, Some, ap, sym}
use Rattle.simplex_handle.specs.Standing.{Saving, Following}
use Rattle.simplex_handle.proofs.RepliesLemmas.{handled, nothing_held}
use Rattle.simplex_handle.proofs.calls.held.Goals as goal

pub returns-in_default-clause-saves : goal.returns-in_default-clause-saves
returns-in_default-clause-saves c = λ roster floor stream.
    nothing_held _ (Following floor stream) roster _ c.in_default.ensures.taken

pub returns-clause-saves : goal.returns-clause-saves
returns-clause-saves c = λ roster floor stream.
    handled _ (Following floor stream) (Saving floor stream c.args.buffer.now c.save-status.new.buffer c.save-status.new.size
    c.save-status.result) roster _ _ c.deref_mut.result.now _
    (c.in-Some.ensures.taken ∙ ap Some (sym c.deref_mut.ensures.value)) c.put_back.ensures
    (c.save-status.ensures.saves roster floor stream)
