use Rattle.std.proofs.Common.{rules}
use Rattle.std.proofs.lemmas.List.Sorted.{answers_always}
use Rattle.std.proofs.lemmas.Result.{on_ok_weaker}
use Rattle.simplex_rules.specs.Accusation.{accused_by}
use Rattle.simplex_rules.specs.Values.{evidence_value}
use Rattle.simplex_shards.specs.Merge.{sort_key}
use Rattle.simplex_shards.proofs.MergeLemmas.{sorted_by_accusation}
use Rattle.simplex_shards.proofs.merge.sort_evidence.Goals as goal

pub returns-clause-sorted : goal.returns-clause-sorted
returns-clause-sorted g c =
    on_ok_weaker c.sort_by_key.result (λ sorted. sorted_by_accusation c.sort_by_key.new.self.items
    (sorted (λ e. sort_key (accused_by (evidence_value e))) (answers_always _ _ _ (λ f a r h called. search rules))))
    c.sort_by_key.ensures.sorted
