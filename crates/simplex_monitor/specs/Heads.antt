-- The greatest of some rounds, and the greatest of an earlier epoch.
use Rattle.std.specs.Prelude.{List, [], ◌∷◌, filter, nat_lt}
use Rattle.std.specs.Ordering.{ord_max}
use Rattle.simplex_base.specs.Positions.{Round}
use Rattle.simplex_rules.specs.Accusation.{round_cmp}

-- the greatest of a round and others, in the order of rounds
abbrev pub greatest : Round → List Round → Round
greatest first [] = first
greatest first (round ∷ rounds) = greatest (ord_max round_cmp first round) rounds

-- those of some rounds that are of an earlier epoch than a round
abbrev pub of_earlier_epochs : Round → List Round → List Round
of_earlier_epochs current rounds = filter (λ round. nat_lt round.epoch current.epoch) rounds
