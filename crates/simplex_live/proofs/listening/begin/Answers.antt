use Rattle.std.proofs.Common.{None}
use Rattle.simplex_monitor.specs.Window.{first_window}
use Rattle.simplex_live.proofs.ListenLemmas.{ready_anew}
use Rattle.simplex_live.proofs.listening.begin.Goals as goal

pub returns : goal.returns
returns g c =
    ready_anew _ c.args.committees.now c.new.result _ c.args.options.now.retained c.args.options.now.ahead
    (λ i. let window = c.window_at-window.ensures.first (λ j. None) i in
    first_window window.finalized window.view_retention window.lookahead) c.new.ensures.listens c.new.ensures.holds
