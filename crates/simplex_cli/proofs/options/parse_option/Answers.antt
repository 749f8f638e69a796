use Rattle.std.proofs.Common.{rules, ◌≡◌, ◌∙◌, ◌∷◌, ap, map, string_bytes}
use Rattle.simplex_cli.proofs.OptionLemmas.{no_number, none_left}
use Rattle.simplex_cli.proofs.options.parse_option.Goals as goal

-- the option without a number
pub returns-in_default-split_first-clause-usage : goal.returns-in_default-split_first-clause-usage
returns-in_default-split_first-clause-usage c =
    let first : string_bytes c.in-Some.first.now ≡ c.args.option.now = search rules in
    no_number _ _ _ (string_bytes c.in-Some.first.now) (ap (map string_bytes) (c.in-Some.ensures.cases.0
    ∙ ap (λ rest. c.in-Some.first.now ∷ rest) (none_left c.in-Some.rest.now c.in_default-split_first.ensures.cases))) first
