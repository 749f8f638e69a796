use Rattle.std.proofs.Common.{◌∙◌, Some, ap, sym}
use Rattle.simplex_handle.specs.Standing.{Counting, Following}
use Rattle.simplex_handle.proofs.RepliesLemmas.{handled, nothing_held}
use Rattle.simplex_handle.proofs.calls.votes.Goals as goal

pub returns-in_default-clause-counts : goal.returns-in_default-clause-counts
returns-in_default-clause-counts c = λ roster floor stream.
    nothing_held _ (Following floor stream) roster _ c.in_default.ensures.taken

pub returns-clause-counts : goal.returns-clause-counts
returns-clause-counts c = λ roster floor stream.
    handled _ (Following floor stream) (Counting floor stream c.votes-status.new.count c.votes-status.result) roster _ _
    c.deref_mut.result.now _
    (c.in-Some.ensures.taken ∙ ap Some (sym c.deref_mut.ensures.value)) c.put_back.ensures
    (c.votes-status.ensures.counts roster floor stream)
