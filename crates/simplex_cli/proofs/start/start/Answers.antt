use Rattle.std.proofs.Common.{◌≡◌, sym, ap, subst, ◌∙◌, Err, map, string_bytes}
use Rattle.std.specs.Vec.Iter.{into_iter_items}
use Rattle.std.proofs.KnownBytes.{Keeps-refl}
use Rattle.simplex_cli.specs.Arguments.{words_of}
use Rattle.simplex_cli.specs.Endings.{AreRefused}
use Rattle.simplex_cli.specs.Status.{number_of}
use Rattle.simplex_cli.specs.declared.status.Failure.TheVariants as failures
use Rattle.simplex_cli.proofs.ProgramLemmas.{ends_alike, refused-number, unstarted}
use Rattle.simplex_cli.proofs.start.start.Goals as goal

pub returns-in-Ok-without_name-clause-ends : goal.returns-in-Ok-without_name-clause-ends
returns-in-Ok-without_name-clause-ends g c =
    let words : map string_bytes c.as_slice.result.now ≡ words_of (into_iter_items c.in-Ok.given) =
    ap (map string_bytes) c.as_slice.ensures.value ∙ c.in-Ok-without_name.ensures in
    let (ending, status, said, ends) = c.command.ensures.ends in
    rw c.in-Ok.is (
      ending,
      c.number-in-Ok-without_name.ensures ∙ ap number_of status,
      said,
      ends_alike _ _ c.args.program _ _ _ _ ending words ends,
    )

pub returns-in-Ok-without_name-clause-refused : goal.returns-in-Ok-without_name-clause-refused
returns-in-Ok-without_name-clause-refused g c =
    let words : words_of (into_iter_items c.in-Ok.given) ≡ map string_bytes c.as_slice.result.now =
    sym (ap (map string_bytes) c.as_slice.ensures.value ∙ c.in-Ok-without_name.ensures) in
    rw (c.in-Ok.is, c.number-in-Ok-without_name.ensures)
    (λ none. refused-number _ (c.command.ensures.refused (subst (AreRefused c.args.program) words none)))

pub returns-in-Ok-without_name-clause-untouched : goal.returns-in-Ok-without_name-clause-untouched
returns-in-Ok-without_name-clause-untouched g c =
    let words : words_of (into_iter_items c.in-Ok.given) ≡ map string_bytes c.as_slice.result.now =
    sym (ap (map string_bytes) c.as_slice.ensures.value ∙ c.in-Ok-without_name.ensures) in
    rw c.in-Ok.is (λ none. c.command.ensures.untouched (subst (AreRefused c.args.program) words none))

pub returns-in-Ok-without_name-clause-read_failed : goal.returns-in-Ok-without_name-clause-read_failed
returns-in-Ok-without_name-clause-read_failed g c = λ failed.
    let is = c.command.ensures.read_failed failed in
    (c.number-in-Ok-without_name.ensures ∙ ap number_of is.0, is.1)

pub returns-in-Ok-without_name-clause-write_failed : goal.returns-in-Ok-without_name-clause-write_failed
returns-in-Ok-without_name-clause-write_failed g c = λ failed.
    let is = c.command.ensures.write_failed failed in
    (c.number-in-Ok-without_name.ensures ∙ ap number_of is.0, is.1)

pub returns-in-Err-without_name-clause-ends : goal.returns-in-Err-without_name-clause-ends
returns-in-Err-without_name-clause-ends g c =
    rw c.in-Ok.is (
      Err failures.OutOfMemory,
      c.number-in-Err-without_name.ensures ∙ ap number_of c.conclude-in-Err-without_name.ensures.status,
      c.conclude-in-Err-without_name.ensures.said,
      unstarted _ _ c.args.program _ _ _ (Keeps-refl _),
    )
