use Rattle.simplex_rules.proofs.Prelude.{filter, is_from, length, ◌≡◌}
use Rattle.simplex_rules.proofs.pruning.prune_rounds.Given as goal

-- what is taken is below the floor
abbrev pub invariant-below : goal.invariant-below
invariant-below g l =
    filter (λ entry. is_from l.fn.floor entry.0) l.fn.rounds.entries
    ≡ filter (λ entry. is_from l.fn.floor entry.0) l.rounds.entries

abbrev pub decreases-below : goal.decreases-below
decreases-below g l = length l.rounds.entries
