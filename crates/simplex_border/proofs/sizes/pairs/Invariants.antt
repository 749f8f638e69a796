use Rattle.std.proofs.Common.{◌≡◌, ◌++◌, drop}
use Rattle.simplex_border.specs.Sizes.{pairs_of}
use Rattle.simplex_border.proofs.sizes.pairs.Given as goal

abbrev pub invariant-epochs : goal.invariant-epochs
invariant-epochs g l = l.pairs.items ++ pairs_of (drop l.i l.epochs) (drop l.i l.sizes) ≡ pairs_of l.epochs l.sizes
