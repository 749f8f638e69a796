use Rattle.std.proofs.Common.{rules, ◌≡◌, ◌∙◌, ◌∷◌, ap, map, string_bytes}
use Rattle.simplex_live.proofs.OptionLemmas.{no_file, none_left}
use Rattle.simplex_live.proofs.options.parse_file.Goals as goal

-- the option without a file
pub returns-in-None-clause-usage : goal.returns-in-None-clause-usage
returns-in-None-clause-usage c =
    let first : string_bytes c.in-Some.first.now ≡ c.args.option.now = search rules in
    no_file _ _ (string_bytes c.in-Some.first.now) (ap (map string_bytes) (c.in-Some.ensures.cases.0
    ∙ ap (λ rest. c.in-Some.first.now ∷ rest) (none_left c.in-Some.rest.now c.in-None.ensures.cases))) first
