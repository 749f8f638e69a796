use Rattle.simplex_shards.proofs.PartBytes.{part_of_ranges}
use Rattle.simplex_shards.proofs.ranges.ranges_are_parts.Goals as goal

pub returns : goal.returns
returns g c = λ bound class i stream table ranges index are.
    part_of_ranges _ g.M.Roundable.round_of g.met.M.Message.never_empty class i stream g.M.Tabular.row_of table ranges index are
