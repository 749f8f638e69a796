-- Every class is below the number of classes.
use Rattle.std.proofs.Common.{◌<◌}
use Rattle.std.proofs.Math.Nat.{mod-lt}
use Rattle.simplex_base.specs.Positions.{Round}
use Rattle.simplex_shards.specs.Cut.{class_under, classes_of}
use Rattle.simplex_shards.specs.declared.cut.Cut.{Cut}
use Rattle.simplex_shards.specs.declared.cut.Cut.TheVariants.{Mixed, Ranges}

pub class_below : (cut : Cut) (round : Round) → class_under cut round < classes_of cut
class_below (Mixed seed classes) round = mod-lt _ classes.ok
class_below (Ranges width classes) round = mod-lt _ classes.ok
