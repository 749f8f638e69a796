use Rattle.std.proofs.Common.{take}
use Rattle.simplex_shards.specs.Cut.{class_under}
use Rattle.simplex_shards.specs.Ranges.{AreRanges}
use Rattle.simplex_shards.proofs.ranges.ranges.Given as goal

abbrev pub invariant-rows : goal.invariant-rows
invariant-rows l = AreRanges (class_under l.fn.cut) l.fn.class (take l.row-index l.fn.rows) l.ranges.items
