use Rattle.std.proofs.Common.{◌∙◌, sym, ap, drop, decimal}
use Rattle.std.proofs.lemmas.Result.{err_from_is_err_and}
use Rattle.simplex_cli.proofs.groups.parse_epoch.Goals as goal

pub returns-in_default-clause-usage : goal.returns-in_default-clause-usage
unfolding lib.Utf8.encode
returns-in_default-clause-usage c = λ epoch small e. c.in_default.ensures.cases (decimal epoch) e

pub returns-in_err-epoch-clause-usage : goal.returns-in_err-epoch-clause-usage
unfolding lib.Utf8.encode
returns-in_err-epoch-clause-usage c =
    let p = err_from_is_err_and c.from_residual.result c.from_residual.ensures.1 in
    let (x, at, digits, size) = c.in-Some.ensures.cases in
    rw (p.1) (λ epoch small e. c.in_err-epoch.ensures.usage epoch small (digits ∙ ap (drop 1) (sym at.split ∙ e)))
