use Rattle.std.proofs.Common.{[], ◌∙◌}
use Rattle.simplex_alarm.specs.Alarm.{nothing_told}
use Rattle.simplex_live.proofs.ListenLemmas.{ready_again}
use Rattle.simplex_live.proofs.listening.resume.Goals as goal

pub returns-clause-ready : goal.returns-clause-ready
returns-clause-ready g c =
    let window = c.window_at-window.result in
    let fed = c.holding-monitor.ensures.listens in
    ready_again _ c.args.committees.now c.news.new.self window c.args.options.now.retained c.args.options.now.ahead
    c.as_slice.result.now _ c.news.result c.as_slice.ensures.value c.window_at-window.ensures.retains
    c.window_at-window.ensures.looks
    (c.news.ensures.listens window c.args.committees.now nothing_told c.as_slice.result.now
    (c.in_ok-monitor.ensures.listens window c.args.committees.now nothing_told [] fed)) c.news.ensures.told
    (c.news.ensures.holds ∙ c.in_ok-monitor.ensures.holds window c.args.committees.now nothing_told [] fed
    ∙ c.holding-monitor.ensures.holds)
