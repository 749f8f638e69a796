use Rattle.std.proofs.Common.{rules, ◌≡◌, ◌∙◌, ◌∷◌, ap, codes, map, string_bytes}
use Rattle.simplex_cli.proofs.CompactLemmas.{no_epoch, no_view, none_left}
use Rattle.simplex_cli.proofs.floors.parse_floor.Goals as goal

pub returns-in_default-split_first-clause-usage : goal.returns-in_default-split_first-clause-usage
returns-in_default-split_first-clause-usage c =
    let first : string_bytes c.in-Some.first.now ≡ codes "--floor" = search rules in
    no_epoch _ (string_bytes c.in-Some.first.now) (ap (map string_bytes) (c.in-Some.ensures.cases.0
    ∙ ap (λ rest. c.in-Some.first.now ∷ rest) (none_left c.in-Some.rest.now c.in_default-split_first.ensures.cases))) first

pub returns-in_default-split_first-2-clause-usage : goal.returns-in_default-split_first-2-clause-usage
returns-in_default-split_first-2-clause-usage c =
    let first : string_bytes c.in-Some.first.now ≡ codes "--floor" = search rules in
    let none = none_left c.in-Some-split_first.rest.now c.in_default-split_first-2.ensures.cases in
    no_view _ (string_bytes c.in-Some.first.now) (string_bytes c.in-Some-split_first.epoch.now)
    (ap (map string_bytes) (c.in-Some.ensures.cases.0
    ∙ ap (λ rest. c.in-Some.first.now ∷ rest) (c.in-Some-split_first.ensures.cases.0
    ∙ ap (λ rest. c.in-Some-split_first.epoch.now ∷ rest) none))) first
