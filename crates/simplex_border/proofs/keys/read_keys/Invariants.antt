use Rattle.std.proofs.Common.{◌≡◌}
use Rattle.std.specs.Prelude.{map}
use Rattle.std.specs.List.{range_with_len}
use Rattle.simplex_border.specs.Keys.{key_at}
use Rattle.simplex_border.proofs.keys.read_keys.Given as goal

abbrev pub invariant-keys : goal.invariant-keys
invariant-keys l = l.keys.items ≡ map (key_at l.bytes) (range_with_len 0 l.place)
