use Rattle.std.proofs.Common.{get_or, ℕ, ◌<◌}
use Rattle.simplex_scheme.proofs.committees.are_rising.Given as goal

abbrev pub invariant-pairs : goal.invariant-pairs
invariant-pairs g l = (a b : ℕ) (d : _) → a < b → b < l.i → (get_or l.pairs a d).0 < (get_or l.pairs b d).0
