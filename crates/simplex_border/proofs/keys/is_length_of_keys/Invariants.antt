use Rattle.std.proofs.Common.{◌≡◌, ◌+◌, ◌*◌, drop}
use Rattle.std.specs.Prelude.{sum}
use Rattle.simplex_border.proofs.keys.is_length_of_keys.Given as goal

-- what is left, with the sizes so far, is all
abbrev pub invariant-sizes : goal.invariant-sizes
invariant-sizes l = l.left + 32 * sum l.sizes ≡ l.fn.length + 32 * sum (drop l.size-index l.sizes)
