use Rattle.std.proofs.Common.{◌≡◌}
use Rattle.simplex_schemes.specs.Marked.{numbered}
use Rattle.simplex_schemes.proofs.marked.numbered_keys.Given as goal

abbrev pub invariant-loop-number : goal.invariant-loop-number
invariant-loop-number l = l.keys.items ≡ numbered l.number
