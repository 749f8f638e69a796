use Rattle.std.proofs.Common.{◌≡◌, ℕ, List, ◌++◌, ap, ◌∙◌}
use Rattle.simplex_audit.proofs.StoreLemmas.{if_ok, stored_same}
use Rattle.simplex_audit.proofs.ledger.store_batch.Goals as goal

pub returns : goal.returns
returns g c =
    let stored = c.args.stored.now in
    let batch = c.args.batch.now in
    let whole : c.as_slice.result.now ≡ stored ++ batch =
    c.as_slice.ensures.value ∙ (c.in_ok-extend_from_slice-2.ensures.items ∙ ap (λ (xs : List ℕ). xs ++ batch)
    (c.in_ok-extend_from_slice.ensures.items ∙ ap (λ (xs : List ℕ). xs ++ stored) c.new-stream.ensures.items)) in
    if_ok _ _ (λ bytes is. stored_same _ _ _ bytes.items whole is) c.store_stream.result c.store_stream.ensures
