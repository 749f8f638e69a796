use Rattle.std.proofs.Common.{◌≡◌, length, string_bytes, sym, ap, ◌∙◌, Err}
use Rattle.std.proofs.lemmas.Bool.{eqb-false}
use Rattle.std.proofs.lemmas.List.{length-map}
use Rattle.std.proofs.lemmas.Result.{err_from_is_err_and}
use Rattle.simplex_cli.specs.Arguments.{AreArguments}
use Rattle.simplex_cli.specs.declared.status.Failure.TheVariants as failures
use Rattle.simplex_cli.proofs.InspectLemmas.{not_given}
use Rattle.simplex_cli.proofs.arguments.parse_any.Goals as goal

pub returns-in_err-committees-clause-usage : goal.returns-in_err-committees-clause-usage
returns-in_err-committees-clause-usage c = λ usage.
    let p = err_from_is_err_and c.from_residual.result c.from_residual.ensures.1 in
    let failed = sym (p.1 ∙ ap Err p.2) ∙ usage in
    let is : c.in_err-committees.field-0.0 ≡ failures.Usage = cc in
    let some = eqb-false (length c.args.arguments.now) 0 (sym c.is_empty.ensures ∙ c.if-is_empty.false) in
    not_given AreArguments _ (λ none. some (sym (length-map c.args.arguments.now string_bytes) ∙ ap length none))
    (c.in_err-committees.ensures.usage (ap Err is))

pub returns-in_err-committees-clause-memory : goal.returns-in_err-committees-clause-memory
returns-in_err-committees-clause-memory c = λ memory.
    let p = err_from_is_err_and c.from_residual.result c.from_residual.ensures.1 in
    let failed = sym (p.1 ∙ ap Err p.2) ∙ memory in
    let is : c.in_err-committees.field-0.0 ≡ failures.OutOfMemory = cc in
    c.in_err-committees.ensures.memory (ap Err is)
