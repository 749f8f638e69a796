use Rattle.std.proofs.Common.{◌++◌, rules}
use Rattle.std.specs.Int.{to_be_bytes, w32}
use Rattle.std.proofs.lemmas.Fn.{always_returns_same}
use Rattle.simplex_lead.proofs.elector.round_robin.shuffle.Goals as goal

pub returns-clause-sorted : goal.returns-clause-sorted
returns-clause-sorted g c =
    c.in_ok-sort_by_cached_key.ensures.sorted (λ i. (g.H.Hasher.digest_of (c.args.seed.now ++ to_be_bytes w32 i), i))
    (always_returns_same _ _ _ (λ a r h called. (search rules, search rules)))
