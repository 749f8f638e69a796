use Rattle.std.proofs.Common.{List, ℕ, [], ◌∷◌, ◌++◌, ◌+◌, map, string_bytes, ap, drop, sym, ◌≡◌, ◌∙◌}
use Rattle.std.proofs.lemmas.List.{drop_more}
use Rattle.simplex_cli.specs.Arguments.{key_named, keys_named}
use Rattle.simplex_cli.proofs.KeyLemmas.{with_keys, with_keys-named}
use Rattle.simplex_cli.proofs.keys.name_keys.Goals as goal

pub texts-preserved : goal.texts-preserved
texts-preserved c =
    let (keys, is) = c.texts.invariant in
    let text = c.text-item.result in
    let behind = map string_bytes (drop (c.texts.text-index + 1) c.args.texts.now) in
    let parts : map string_bytes (drop c.texts.text-index c.args.texts.now) ≡ string_bytes text ∷ behind =
    ap (map string_bytes) (drop_more c.args.texts.now c.texts.text-index text c.texts-test.true)
    ∙ ap (λ t. string_bytes t ∷ behind) (sym c.text-item.is) in
    let named = with_keys-named keys (string_bytes text) behind c.in-Ok.field-0
    (ap key_named (sym c.as_str.ensures.value) ∙ c.in-Ok.ensures.key) in
    (keys ++ c.in-Ok.field-0 ∷ [], named ∙ (ap (λ (ts : List (List ℕ)). with_keys keys (keys_named ts)) (sym parts) ∙ is))
