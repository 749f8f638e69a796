use Rattle.std.proofs.Common.{ap, rules}
use Rattle.simplex_shards.specs.Cut.{mixed_class}
use Rattle.simplex_ffi.proofs.classes.even_cut.Goals as goal

pub returns-clause-some : goal.returns-clause-some
returns-clause-some c =
    (search rules, ap (mixed_class c.args.seed) c.in_ok-classes.ensures, c.in_ok-classes.ensures)
