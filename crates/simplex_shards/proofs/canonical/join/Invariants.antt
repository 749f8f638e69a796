use Rattle.std.proofs.Common.{◌≡◌}
use Rattle.std.specs.List.{flat_map}
use Rattle.simplex_shards.proofs.canonical.join.Given as goal

abbrev pub invariant-messages : goal.invariant-messages
invariant-messages l = l.bytes.items ≡ flat_map (λ message. message.items) l.yielded
