use Rattle.std.proofs.Common.{◌∙◌, Some, ap, sym}
use Rattle.simplex_handle.specs.contracts.auditor.AnyAuditorJudged.TheImpl as judged
use Rattle.simplex_handle.specs.Standing.{Deferring, Following}
use Rattle.simplex_handle.proofs.RepliesLemmas.{handled, nothing_held}
use Rattle.simplex_handle.proofs.calls.unverified.Goals as goal

pub returns-in_default-clause-defers : goal.returns-in_default-clause-defers
returns-in_default-clause-defers c = λ roster floor stream.
    nothing_held _ (Following floor stream) roster _ c.in_default.ensures.taken

pub returns-clause-defers : goal.returns-clause-defers
returns-clause-defers c = λ roster floor stream.
    handled _ (Following floor stream) (Deferring floor stream judged.ghosts.encodings c.args.bytes.now c.args.records.now
    c.unverified-status.new.records c.unverified-status.new.needed c.unverified-status.new.whole c.unverified-status.result
    roster) roster _ _ c.deref_mut.result.now _
    (c.in-Some.ensures.taken ∙ ap Some (sym c.deref_mut.ensures.value)) c.put_back.ensures
    (c.unverified-status.ensures.defers roster floor stream)
