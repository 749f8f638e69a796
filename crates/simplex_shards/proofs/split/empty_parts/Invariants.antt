use Rattle.std.proofs.Common.{◌≡◌, []}
use Rattle.std.specs.Prelude.{replicate}
use Rattle.simplex_shards.specs.Split.{items_in}
use Rattle.simplex_shards.proofs.split.empty_parts.Given as goal

abbrev pub invariant-classes : goal.invariant-classes
invariant-classes g l = items_in l.parts ≡ replicate l.counter []
