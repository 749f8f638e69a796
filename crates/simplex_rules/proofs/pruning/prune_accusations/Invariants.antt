use Rattle.simplex_rules.proofs.Prelude.{filter, is_from, length, ◌≡◌}
use Rattle.simplex_rules.proofs.pruning.prune_accusations.Given as goal

-- what is taken is below the floor
abbrev pub invariant-below : goal.invariant-below
invariant-below l =
    filter (λ accusation. is_from l.fn.floor accusation.accused.round) l.fn.accusations.keys
    ≡ filter (λ accusation. is_from l.fn.floor accusation.accused.round) l.accusations.keys

abbrev pub decreases-below : goal.decreases-below
decreases-below l = length l.accusations.keys
