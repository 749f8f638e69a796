use Rattle.std.proofs.Common.{List, ℕ, ◌++◌, map, length, string_bytes}
use Rattle.simplex_scheme.specs.Committees.{AreRising}
use Rattle.simplex_cli.specs.Arguments.{AreGroups}
use Rattle.simplex_cli.proofs.GroupLemmas.{AreRead}
use Rattle.simplex_cli.proofs.NoGroups.{Continues}
use Rattle.simplex_cli.proofs.groups.parse_groups.Given as goal

abbrev pub invariant-groups : goal.invariant-groups
invariant-groups g l =
    let naming = g.S.Named.naming l.common in
    let texts = map string_bytes l.texts in
    let rest = map string_bytes l.rest in record {
      named : (more : List (ℕ × g.row.S.Denot)) → AreGroups naming rest more → AreGroups naming texts (l.pairs.items ++ more);
      rising : AreRising l.pairs.items;
      read : AreRead naming texts rest l.pairs.items;
      only : Continues naming texts rest l.pairs.items;
    }

abbrev pub decreases-groups : goal.decreases-groups
decreases-groups g l = length l.rest
