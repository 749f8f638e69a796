use Rattle.std.proofs.Common.{◌≡◌, List, ℕ, map, string_bytes, drop}
use Rattle.simplex_cli.specs.Arguments.{keys_named}
use Rattle.simplex_cli.proofs.KeyLemmas.{with_keys}
use Rattle.simplex_cli.proofs.keys.name_keys.Given as goal

abbrev pub invariant-texts : goal.invariant-texts
invariant-texts l =
    (keys : List (List ℕ))
    × (with_keys keys (keys_named (map string_bytes (drop l.text-index l.texts))) ≡ keys_named (map string_bytes l.texts))
