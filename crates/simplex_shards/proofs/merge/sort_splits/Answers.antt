use Rattle.std.proofs.Common.{rules}
use Rattle.std.proofs.lemmas.List.Sorted.{answers_always}
use Rattle.std.proofs.lemmas.Result.{on_ok_weaker}
use Rattle.simplex_shards.proofs.merge.sort_splits.Goals as goal

pub returns-clause-sorted : goal.returns-clause-sorted
returns-clause-sorted c =
    on_ok_weaker c.sort_by_key.result
    (λ sorted. sorted (λ s. s.round) (answers_always _ _ _ (λ f a r h called. search rules))) c.sort_by_key.ensures.sorted
