use Rattle.std.proofs.Common.{ap, Err, refl}
use Rattle.std.proofs.lemmas.Result.{err_from_is_err_and}
use Rattle.std.proofs.KnownBytes.{Keeps-refl}
use Rattle.simplex_audit.specs.Outcome.{reader_use, writer_use}
use Rattle.simplex_cli.proofs.AuditLemmas.{committees-named, ends-without_committees, ends-given_up}
use Rattle.simplex_cli.proofs.auditing.audit_input.Goals as goal

pub returns-in_err-committees-clause-ends : goal.returns-in_err-committees-clause-ends
returns-in_err-committees-clause-ends g c =
    let p = err_from_is_err_and c.from_residual.result c.from_residual.ensures.1 in
    let input = c.args.input.now in
    let output = c.args.output.now in
    rw (p.1, p.2) (ends-without_committees _ _
    (reader_use g.R.Read.remaining input input) (writer_use g.W.Write.contents output output)
    _ (λ e. c.in_err-committees.ensures.usage (ap Err e)) c.in_err-committees.ensures.failure (Keeps-refl _))

pub returns-in_err-summary-in-Full-clause-ends : goal.returns-in_err-summary-in-Full-clause-ends
returns-in_err-summary-in-Full-clause-ends g c =
    let p =
    err_from_is_err_and c.from_residual-in_err-summary-in-Full.result c.from_residual-in_err-summary-in-Full.ensures.1 in
    let input = c.run.new.reader in
    let output = c.run.new.writer in
    let ran = c.in_err-summary-in-Full.ensures in
    rw (p.1, p.2) (ends-given_up _ _
    (reader_use g.R.Read.remaining c.args.input.now input) (writer_use g.W.Write.contents c.args.output.now output)
    c.in_ok-committees.committees c.in_err-summary-in-Full.field-0.0 c.in_ok-committees.ensures.committees
    (λ e. ran.read_failed.1 (ap Err e)) (λ e. ran.too_long (ap Err e)) (λ other. ran.nothing other)
    (λ e.
    let (bytes, text, summary, consumed, ended, account, beginning) = ran.beginning (ap Err e) in (
      text,
      summary.fault,
      record {
        committees = c.in_ok-committees.committees;
        input = bytes;
        summary = summary;
        named = c.in_ok-committees.ensures.committees;
        consumed = consumed;
        ended = ended;
        account = account;
        fault_is = refl;
      },
      beginning,
      ran.write_failed.1 (ap Err e),
    )))

pub returns-in_err-summary-in-Deferred-clause-ends : goal.returns-in_err-summary-in-Deferred-clause-ends
returns-in_err-summary-in-Deferred-clause-ends g c =
    let p = err_from_is_err_and c.from_residual-in_err-summary-in-Deferred.result
    c.from_residual-in_err-summary-in-Deferred.ensures.1 in
    let input = c.run_deferred.new.reader in
    let output = c.run_deferred.new.writer in
    let ran = c.in_err-summary-in-Deferred.ensures in
    rw (p.1, p.2) (ends-given_up _ _
    (reader_use g.R.Read.remaining c.args.input.now input) (writer_use g.W.Write.contents c.args.output.now output)
    c.in_ok-committees.committees c.in_err-summary-in-Deferred.field-0.0 c.in_ok-committees.ensures.committees
    (λ e. ran.read_failed.1 (ap Err e)) (λ e. absurd (ran.too_long (ap Err e))) (λ other. ran.nothing other)
    (λ e.
    let (bytes, text, summary, consumed, ended, account, beginning) = ran.beginning (ap Err e) in (
      text,
      summary.fault,
      record {
        committees = c.in_ok-committees.committees;
        input = bytes;
        summary = summary;
        named = c.in_ok-committees.ensures.committees;
        consumed = consumed;
        ended = ended;
        account = account;
        fault_is = refl;
      },
      beginning,
      ran.write_failed.1 (ap Err e),
    )))

pub returns-in_err-summary-in-Full-clause-untouched : goal.returns-in_err-summary-in-Full-clause-untouched
returns-in_err-summary-in-Full-clause-untouched g c = λ none.
    absurd (committees-named _ _ c.in_ok-committees.ensures.committees none)

pub returns-in_err-summary-in-Deferred-clause-untouched : goal.returns-in_err-summary-in-Deferred-clause-untouched
returns-in_err-summary-in-Deferred-clause-untouched g c = λ none.
    absurd (committees-named _ _ c.in_ok-committees.ensures.committees none)

pub returns-in-Full-clause-untouched : goal.returns-in-Full-clause-untouched
returns-in-Full-clause-untouched g c = λ none. absurd (committees-named _ _ c.in_ok-committees.ensures.committees none)

pub returns-clause-untouched : goal.returns-clause-untouched
returns-clause-untouched g c = λ none. absurd (committees-named _ _ c.in_ok-committees.ensures.committees none)
