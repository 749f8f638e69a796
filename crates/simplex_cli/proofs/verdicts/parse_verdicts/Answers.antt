use Rattle.std.proofs.Common.{rules, ◌≡◌, ◌∙◌, ◌∷◌, ap, codes, map, string_bytes}
use Rattle.std.proofs.lemmas.Result.{err_from_is_err_and}
use Rattle.simplex_cli.proofs.GroupLemmas.{no_texts}
use Rattle.simplex_cli.proofs.VerdictLemmas.{no_size, nothing_behind}
use Rattle.simplex_cli.proofs.verdicts.parse_verdicts.Goals as goal

pub returns-in_default-split_first-clause-usage : goal.returns-in_default-split_first-clause-usage
returns-in_default-split_first-clause-usage c =
    let first : string_bytes c.in-Some.first.now ≡ codes "--verdicts" = search rules in
    nothing_behind _ (string_bytes c.in-Some.first.now) (ap (map string_bytes) c.in-Some.ensures.cases.0
    ∙ ap (λ words. string_bytes c.in-Some.first.now ∷ words)
    (no_texts c.in-Some.rest.now c.in_default-split_first.ensures.cases)) first

pub returns-in_err-size-clause-usage : goal.returns-in_err-size-clause-usage
returns-in_err-size-clause-usage c =
    let first : string_bytes c.in-Some.first.now ≡ codes "--verdicts" = search rules in
    let p = err_from_is_err_and c.from_residual.result c.from_residual.ensures.1 in
    rw p.1 (no_size _ (map string_bytes c.in-Some-split_first.field-0-1.now) (string_bytes c.in-Some.first.now)
    (string_bytes c.in-Some-split_first.size.now)
    (ap (map string_bytes) (c.in-Some.ensures.cases.0
    ∙ ap (λ rest. c.in-Some.first.now ∷ rest) c.in-Some-split_first.ensures.cases.0)) first
    (λ size e. c.in_err-size.ensures.usage size (c.as_str-2.ensures.value ∙ e)))
