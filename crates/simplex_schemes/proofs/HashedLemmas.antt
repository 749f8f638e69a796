-- Hashed bytes are those of one name, key and message.
use Rattle.std.proofs.Common.{◌≡◌, ℕ, ◌<◌, ◌^◌, List, ◌++◌, length, take, drop, sym, ap, ◌∙◌, refl}
use Rattle.std.proofs.lemmas.List.{take_at, drop_at}
use Rattle.simplex_base.specs.FormatLaws.{one_encoding}
use Rattle.simplex_base.specs.VarintLaws.{number_64_lawful}
use Rattle.simplex_schemes.specs.Plain.{hashed}

-- equal lists whose first parts have one length have equal parts
parts : (front other rest more : List ℕ) → length front ≡ length other → front ++ rest ≡ other ++ more →
    (front ≡ other) × (rest ≡ more)
parts front other rest more size same = (
  sym (take_at front rest (length front) refl) ∙ (ap (take (length front)) same ∙ take_at other more (length front) (sym size)),
  sym (drop_at front rest (length front) refl) ∙ (ap (drop (length front)) same ∙ drop_at other more (length front) (sym size)),
)

pub hashed_decides : (name other_name key other_key message other_message : List ℕ) → length name < 2 ^ 64 →
    length other_name < 2 ^ 64 → length key ≡ length other_key →
    hashed name key message ≡ hashed other_name other_key other_message →
    (name ≡ other_name) × (key ≡ other_key) × (message ≡ other_message)
hashed_decides name other_name key other_key message other_message small other_small keys same =
    let sizes = one_encoding number_64_lawful (length name) (length other_name) (name ++ (key ++ message))
    (other_name ++ (other_key ++ other_message)) small other_small same in
    let names = parts name other_name (key ++ message) (other_key ++ other_message) sizes.0 sizes.1 in
    let rest = parts key other_key message other_message keys names.1 in
    (names.0, rest.0, rest.1)
