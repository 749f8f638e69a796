use Rattle.std.proofs.Common.{refl}
use Rattle.simplex_shards.proofs.cut.class_of.Goals as goal

pub returns-clause-vectors : goal.returns-clause-vectors
returns-clause-vectors c = record { first = refl; next_view = refl; next_epoch = refl; middle = refl; last = refl }
