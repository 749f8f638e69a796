use Rattle.std.proofs.Common.{◌∙◌, Some, ap, sym}
use Rattle.simplex_handle.specs.Standing.{Feeding, Following}
use Rattle.simplex_handle.proofs.RepliesLemmas.{handled, nothing_held}
use Rattle.simplex_handle.proofs.calls.feed.Goals as goal

pub returns-in_default-clause-feeds : goal.returns-in_default-clause-feeds
returns-in_default-clause-feeds c = λ roster floor stream.
    nothing_held _ (Following floor stream) roster _ c.in_default.ensures.taken

pub returns-clause-feeds : goal.returns-clause-feeds
returns-clause-feeds c = λ roster floor stream.
    handled _ (Following floor stream) (Feeding floor stream c.args.bytes.now c.feed-status.result) roster _ _
    c.deref_mut.result.now _
    (c.in-Some.ensures.taken ∙ ap Some (sym c.deref_mut.ensures.value)) c.put_back.ensures
    (c.feed-status.ensures.feeds roster floor stream)
