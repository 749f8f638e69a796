use Rattle.std.proofs.Common.{◌∙◌, Some, ap, sym}
use Rattle.simplex_handle.specs.Standing.{Telling, Following}
use Rattle.simplex_handle.proofs.RepliesLemmas.{handled, nothing_held}
use Rattle.simplex_handle.proofs.calls.news.Goals as goal

pub returns-in_default-clause-tells : goal.returns-in_default-clause-tells
returns-in_default-clause-tells c = λ roster floor stream.
    nothing_held _ (Following floor stream) roster _ c.in_default.ensures.taken

pub returns-clause-tells : goal.returns-clause-tells
returns-clause-tells c = λ roster floor stream.
    handled _ (Following floor stream) (Telling floor stream c.args.buffer.now c.tell-status.new.buffer
    c.tell-status.new.size c.tell-status.result) roster _ _ c.deref_mut.result.now _
    (c.in-Some.ensures.taken ∙ ap Some (sym c.deref_mut.ensures.value)) c.put_back.ensures
    (c.tell-status.ensures.tells roster floor stream)
