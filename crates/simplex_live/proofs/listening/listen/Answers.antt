use Rattle.std.proofs.Common.{rules, inl, inr}
use Rattle.std.proofs.KnownBytes.{Keeps-refl}
use Rattle.simplex_audit.specs.Outcome.{reader_use, writer_use}
use Rattle.simplex_live.proofs.EndingLemmas.{run_fails}
use Rattle.simplex_live.proofs.ListenLemmas.{heard_as_part, heard_in_part, is_heard, on_err}
use Rattle.simplex_live.proofs.listening.listen.Goals as goal

-- nothing was read or written
pub returns-in_err-write-clause-begun : goal.returns-in_err-write-clause-begun
returns-in_err-write-clause-begun g c = on_err c.from_residual.result _ (inl (Keeps-refl _))

pub returns-in_err-monitor-clause-begun : goal.returns-in_err-monitor-clause-begun
returns-in_err-monitor-clause-begun g c =
    let (input, more, consumed, begun) = c.in_err-monitor.ensures.begun in
    on_err c.from_residual-in_err-monitor.result _ (inr (heard_in_part _ g.D.Fixed.bytes_of
    (reader_use g.R.Read.remaining c.args.input.now c.monitor_input.new.reader)
    (writer_use g.W.Write.contents c.args.output.now c.monitor_input.new.writer) c.args.monitor c.write.new.monitor
    c.write.ensures.fed c.write.ensures.holds c.write.ensures.listens input more consumed begun))

pub returns-in_err-write-2-clause-begun : goal.returns-in_err-write-2-clause-begun
returns-in_err-write-2-clause-begun g c =
    let (input, consumed, heard) = c.in_ok-monitor.ensures.whole in
    on_err c.from_residual-in_err-write-2.result _ (inr (heard_as_part _ g.D.Fixed.bytes_of
    (reader_use g.R.Read.remaining c.args.input.now c.monitor_input.new.reader)
    (writer_use g.W.Write.contents c.args.output.now c.monitor_input.new.writer) c.args.monitor c.write.new.monitor
    c.write.ensures.fed c.write.ensures.holds c.write.ensures.listens input c.in_ok-monitor.monitor consumed heard))

pub returns-in_err-all-clause-begun : goal.returns-in_err-all-clause-begun
returns-in_err-all-clause-begun g c =
    let (input, consumed, heard) = c.in_ok-monitor.ensures.whole in
    on_err c.from_residual-in_err-all.result _ (inr (heard_as_part _ g.D.Fixed.bytes_of
    (reader_use g.R.Read.remaining c.args.input.now c.monitor_input.new.reader)
    (writer_use g.W.Write.contents c.args.output.now c.monitor_input.new.writer) c.args.monitor c.write.new.monitor
    c.write.ensures.fed c.write.ensures.holds c.write.ensures.listens input c.in_ok-monitor.monitor consumed heard))

pub returns-in_err-monitor-clause-error : goal.returns-in_err-monitor-clause-error
returns-in_err-monitor-clause-error g c =
    run_fails c.in_err-monitor.field-0.0 c.from_residual-in_err-monitor.result (search rules)

pub returns-clause-whole : goal.returns-clause-whole
returns-clause-whole g c =
    let (input, consumed, heard) = c.in_ok-monitor.ensures.whole in
    is_heard _ g.D.Fixed.bytes_of (reader_use g.R.Read.remaining c.args.input.now c.monitor_input.new.reader)
    (writer_use g.W.Write.contents c.args.output.now c.monitor_input.new.writer) c.args.monitor c.write.new.monitor
    c.write.ensures.fed c.write.ensures.holds c.write.ensures.listens c.in_ok-monitor.monitor c.write-2.new.monitor input
    c.args.skipped c.args.base
    c.read-before.result c.in_ok-all.all c.behind_state.result consumed c.in_ok-monitor.ensures.end heard
    c.in_ok-monitor.ensures.flushed c.write-2.ensures.fed c.write-2.ensures.holds c.write-2.ensures.listens
    c.write-2.ensures.told
    c.read-before.ensures c.in_ok-all.ensures c.behind_state.ensures
