use Rattle.std.proofs.Common.{rules, [], false, true}
use Rattle.std.proofs.KnownBytes.{Keeps-refl}
use Rattle.simplex_audit.specs.Outcome.{reader_use, writer_use}
use Rattle.simplex_live.proofs.EndingLemmas.{hearing_ends, hearing_fails, resume_fails}
use Rattle.simplex_live.proofs.live.hear.Goals as goal

-- without a state
pub returns-in_default-clause-ends : goal.returns-in_default-clause-ends
returns-in_default-clause-ends g c =
    hearing_ends _ _ _ _ c.args.options.now
    (reader_use g.R.Read.remaining c.args.input.now c.listen.new.input)
    (writer_use g.W.Write.contents c.args.output.now c.listen.new.output) _ [] c.begin-monitor.result false 0 0 (λ i. 0)
    c.in-Ok.ensures.committees (search rules) c.begin-monitor.ensures (λ e i. 0) c.listen.result c.listen.ensures.whole
    c.listen.ensures.begun c.listen.ensures.error

pub returns-in_err-store-clause-ends : goal.returns-in_err-store-clause-ends
returns-in_err-store-clause-ends g c =
    hearing_fails _ _ _ _ c.args.options.now _ _ c.in_err-store.field-0.0 c.from_residual.result (search rules) (Keeps-refl _)
    (λ e. let is = c.in-Some.is in absurd cc) c.in_err-store.ensures

pub returns-in_err-monitor-clause-ends : goal.returns-in_err-monitor-clause-ends
returns-in_err-monitor-clause-ends g c =
    hearing_fails _ _ _ _ c.args.options.now _ _ c.in_err-monitor.field-0.0 c.from_residual-in_err-monitor.result (search rules)
    (Keeps-refl _) (λ e. let is = c.in-Some.is in absurd cc)
    (resume_fails c.in_err-monitor.field-0.0 c.in_err-monitor.ensures.error)

-- behind a state
pub returns-clause-ends : goal.returns-clause-ends
returns-clause-ends g c =
    hearing_ends _ _ _ _ c.args.options.now
    (reader_use g.R.Read.remaining c.args.input.now c.listen-2.new.input)
    (writer_use g.W.Write.contents c.args.output.now c.listen-2.new.output) _ c.in_ok-store.recovered.held.items
    c.in_ok-monitor.monitor true c.len-skipped.result c.covers-base.result (search rules) c.in-Ok.ensures.committees
    (search rules) c.in_ok-monitor.ensures.ready (λ e. let is = c.in-Some.is in absurd cc) c.listen-2.result
    c.listen-2.ensures.whole c.listen-2.ensures.begun c.listen-2.ensures.error
