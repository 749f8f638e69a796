use Rattle.std.proofs.Common.{◌≡◌, ◌-◌, ◌^◌, min}
use Rattle.std.specs.List.{flat_map, sum_by}
use Rattle.simplex_shards.proofs.merge.gather.Given as goal

abbrev pub invariant-parts : goal.invariant-parts
invariant-parts g l = record {
  evidence : l.evidence.items ≡ flat_map (λ part. part.evidence.items) l.yielded;
  splits : l.splits.items ≡ flat_map (λ part. part.splits.items) l.yielded;
  read : l.read ≡ min (sum_by (λ part. part.read) l.yielded) (2 ^ 64 - 1);
}
