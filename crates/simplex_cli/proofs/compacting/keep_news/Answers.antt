use Rattle.std.proofs.Common.{ap, drop, Err, inl, map, refl, string_bytes, subst}
use Rattle.std.proofs.lemmas.Result.{err_from_is_err_and}
use Rattle.std.proofs.KnownBytes.{Keeps-refl}
use Rattle.simplex_audit.specs.Outcome.{reader_use, writer_use}
use Rattle.simplex_cli.specs.Arguments.{AreArguments, AreNoArguments}
use Rattle.simplex_cli.proofs.CompactLemmas.{compact_given_up, compact_without, no_committees, no_floor, words_behind}
use Rattle.simplex_cli.proofs.compacting.keep_news.Goals as goal

pub returns-in_err-floor-clause-ends : goal.returns-in_err-floor-clause-ends
returns-in_err-floor-clause-ends g c =
    let p = err_from_is_err_and c.from_residual.result c.from_residual.ensures.1 in
    let input = c.args.input.now in
    let output = c.args.output.now in
    rw (p.1, p.2) (compact_without _ _
    (reader_use g.R.Read.remaining input input) (writer_use g.W.Write.contents output output)
    _ (λ e. no_floor _ c.in_err-floor.ensures.usage) (inl c.in_err-floor.ensures.failure) (Keeps-refl _))

pub returns-in_err-committees-clause-ends : goal.returns-in_err-committees-clause-ends
returns-in_err-committees-clause-ends g c =
    let p = err_from_is_err_and c.from_residual-in_err-committees.result c.from_residual-in_err-committees.ensures.1 in
    let input = c.args.input.now in
    let output = c.args.output.now in
    rw (p.1, p.2) (compact_without _ _
    (reader_use g.R.Read.remaining input input) (writer_use g.W.Write.contents output output)
    _ (λ e. no_committees _ _ c.in_ok-floor.floor c.in_ok-floor.ensures.floor
    (subst AreNoArguments (words_behind string_bytes c.in_ok-floor.count c.args.arguments.now)
    (c.in_err-committees.ensures.usage (ap Err e)))) c.in_err-committees.ensures.failure (Keeps-refl _))

pub returns-in_err-said-clause-ends : goal.returns-in_err-said-clause-ends
returns-in_err-said-clause-ends g c =
    let p = err_from_is_err_and c.from_residual-in_err-said.result c.from_residual-in_err-said.ensures.1 in
    let input = c.compact_input.new.reader in
    let output = c.compact_input.new.writer in
    let ran = c.in_err-said.ensures in
    rw (p.1, p.2) (compact_given_up _ _
    (reader_use g.R.Read.remaining c.args.input.now input) (writer_use g.W.Write.contents c.args.output.now output)
    c.in_err-said.field-0.0
    (λ e. ran.read_failed.1 (ap Err e)) (λ e. ran.too_long (ap Err e)) (λ e. ran.write_failed.1 (ap Err e))
    (record {
      floor = c.in_ok-floor.floor;
      committees = c.in_ok-committees.committees;
      named = (
        drop c.in_ok-floor.count (map string_bytes c.args.arguments.now),
        c.in_ok-floor.ensures.floor,
        subst (λ words. AreArguments words c.in_ok-committees.committees)
            (words_behind string_bytes c.in_ok-floor.count c.args.arguments.now) c.in_ok-committees.ensures.committees,
      );
      written = ran.begun;
    }))

pub returns-in_err-said-clause-untouched : goal.returns-in_err-said-clause-untouched
returns-in_err-said-clause-untouched g c = λ none.
    absurd (none c.in_ok-floor.floor c.in_ok-committees.committees (
      drop c.in_ok-floor.count (map string_bytes c.args.arguments.now),
      c.in_ok-floor.ensures.floor,
      subst (λ words. AreArguments words c.in_ok-committees.committees)
          (words_behind string_bytes c.in_ok-floor.count c.args.arguments.now) c.in_ok-committees.ensures.committees,
    ))

pub returns-clause-ends : goal.returns-clause-ends
returns-clause-ends g c =
    let (bytes, consumed, written) = c.in_ok-said.ensures.part in record {
      floor = c.in_ok-floor.floor;
      committees = c.in_ok-committees.committees;
      input = bytes;
      said = c.in_ok-said.said;
      named = (
        drop c.in_ok-floor.count (map string_bytes c.args.arguments.now),
        c.in_ok-floor.ensures.floor,
        subst (λ words. AreArguments words c.in_ok-committees.committees)
            (words_behind string_bytes c.in_ok-floor.count c.args.arguments.now) c.in_ok-committees.ensures.committees,
      );
      consumed = consumed;
      ended = c.in_ok-said.ensures.end;
      written = written;
      flushed = c.in_ok-said.ensures.flushed;
      fault_is = refl;
    }

pub returns-clause-untouched : goal.returns-clause-untouched
returns-clause-untouched g c = λ none.
    absurd (none c.in_ok-floor.floor c.in_ok-committees.committees (
      drop c.in_ok-floor.count (map string_bytes c.args.arguments.now),
      c.in_ok-floor.ensures.floor,
      subst (λ words. AreArguments words c.in_ok-committees.committees)
          (words_behind string_bytes c.in_ok-floor.count c.args.arguments.now) c.in_ok-committees.ensures.committees,
    ))
