use Rattle.std.proofs.Common.{◌≡◌, ◌⊎◌, ap, Err, subst}
use Rattle.std.specs.Prelude.{IfErr}
use Rattle.std.proofs.lemmas.Result.{err_from_is_err_and}
use Rattle.std.proofs.KnownBytes.{Keeps-refl}
use Rattle.simplex_audit.specs.Outcome.{reader_use, writer_use}
use Rattle.simplex_cli.specs.declared.status.Failure.TheVariants as failures
use Rattle.simplex_cli.proofs.InspectLemmas.{failed_apart, show_given_up, show_without}
use Rattle.simplex_cli.proofs.inspecting.show.Goals as goal

pub returns-in_err-committees-clause-ends : goal.returns-in_err-committees-clause-ends
returns-in_err-committees-clause-ends g c =
    let p = err_from_is_err_and c.from_residual.result c.from_residual.ensures.1 in
    let input = c.args.input.now in
    let output = c.args.output.now in
    rw (p.1, p.2) (show_without _ _
    (reader_use g.R.Read.remaining input input) (writer_use g.W.Write.contents output output)
    _ (λ e committees same. failed_apart _ _ committees c.in_err-committees.was same)
    (subst (λ given. IfErr given (λ e. (e ≡ failures.Usage) ⊎ (e ≡ failures.OutOfMemory))) c.in_err-committees.was
    c.requires.given) (Keeps-refl _))

pub returns-in_err-fault-clause-ends : goal.returns-in_err-fault-clause-ends
returns-in_err-fault-clause-ends g c =
    let p = err_from_is_err_and c.from_residual-in_err-fault.result c.from_residual-in_err-fault.ensures.1 in
    let input = c.inspect_input.new.reader in
    let output = c.inspect_input.new.writer in
    let (bytes, is, begun) = c.in_err-fault.ensures.begun in
    rw (p.1, p.2) (show_given_up _ _
    (reader_use g.R.Read.remaining c.args.input.now input) (writer_use g.W.Write.contents c.args.output.now output)
    c.in_err-fault.field-0.0
    (λ e. c.in_err-fault.ensures.read_failed.1 (ap Err e)) (λ e. c.in_err-fault.ensures.too_long (ap Err e))
    (λ e. c.in_err-fault.ensures.write_failed.1 (ap Err e))
    (record {
      committees = c.in_ok-committees.committees;
      input = bytes;
      given = c.in_ok-committees.was;
      input_is = is;
      written = begun;
    }))

pub returns-clause-ends : goal.returns-clause-ends
returns-clause-ends g c =
    let (bytes, is, text) = c.in_ok-fault.ensures.whole in
    record {
      committees = c.in_ok-committees.committees;
      input = bytes;
      given = c.in_ok-committees.was;
      input_is = is;
      ended = c.in_ok-fault.ensures.end;
      written = text;
      flushed = c.in_ok-fault.ensures.flushed;
    }
