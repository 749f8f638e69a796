use Rattle.std.proofs.Common.{◌≡◌, map, string_bytes, drop}
use Rattle.simplex_cli.specs.Arguments.{keys_named}
use Rattle.simplex_cli.proofs.KeyLemmas.{with_keys}
use Rattle.simplex_cli.proofs.keys.parse_keys.Given as goal

abbrev pub invariant-loop-text : goal.invariant-loop-text
invariant-loop-text l =
    with_keys l.keys.items (keys_named (map string_bytes (drop l.text-index l.texts))) ≡ keys_named (map string_bytes l.texts)
