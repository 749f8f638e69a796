use Rattle.std.proofs.Common.{◌≡◌, ap, map, string_bytes, sym, ◌∙◌, Err}
use Rattle.std.proofs.lemmas.Result.{err_from_is_err_and}
use Rattle.simplex_cli.specs.declared.status.Failure.TheVariants as failures
use Rattle.simplex_cli.proofs.ArgumentLemmas.{no_arguments}
use Rattle.simplex_cli.proofs.arguments.parse.Goals as goal

pub returns-clause-committees : goal.returns-clause-committees
returns-clause-committees c = (
  string_bytes c.in-Some.namespace.now,
  map string_bytes c.in-Some.texts.now,
  ap (map string_bytes) c.in-Some.ensures.cases.0,
  c.in_ok-committees.ensures.committees,
)

pub returns-in_err-committees-clause-usage : goal.returns-in_err-committees-clause-usage
returns-in_err-committees-clause-usage c = λ usage.
    let p = err_from_is_err_and c.from_residual.result c.from_residual.ensures.1 in
    let failed = sym (p.1 ∙ ap Err p.2) ∙ usage in
    let is : c.in_err-committees.field-0.0 ≡ failures.Usage = cc in
    no_arguments _ (string_bytes c.in-Some.namespace.now) (map string_bytes c.in-Some.texts.now)
    (ap (map string_bytes) c.in-Some.ensures.cases.0) (c.in_err-committees.ensures.usage (ap Err is))

pub returns-in_err-committees-clause-memory : goal.returns-in_err-committees-clause-memory
returns-in_err-committees-clause-memory c = λ memory.
    let p = err_from_is_err_and c.from_residual.result c.from_residual.ensures.1 in
    let failed = sym (p.1 ∙ ap Err p.2) ∙ memory in
    let is : c.in_err-committees.field-0.0 ≡ failures.OutOfMemory = cc in (
      string_bytes c.in-Some.namespace.now,
      map string_bytes c.in-Some.texts.now,
      ap (map string_bytes) c.in-Some.ensures.cases.0,
      c.in_err-committees.ensures.memory (ap Err is),
    )
