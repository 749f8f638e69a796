use Rattle.std.proofs.Common.{[], ap, subst, sym, ◌≡◌, ◌∙◌}
use Rattle.std.specs.Prelude.{IfSome, is_some}
use Rattle.simplex_alarm.specs.Alarm.{Sounds, nothing_told}
use Rattle.simplex_detector.specs.Detector.{Recalls}
use Rattle.simplex_rules.specs.declared.judging.Judging.TheVariants.{From}
use Rattle.simplex_monitor.proofs.HoldingLemmas.{held_if, none_held}
use Rattle.simplex_monitor.proofs.WatchingLemmas.{begins}
use Rattle.simplex_monitor.proofs.watcher.Watcher.new.Goals as goal

pub returns-clause-holds : goal.returns-clause-holds
returns-clause-holds g c = ap is_some c.then_some.ensures ∙ held_if c.args.holds c.new-3.result

pub returns-clause-watches : goal.returns-clause-watches
returns-clause-watches g c committees =
    begins _ c.args.window c.new.result c.new-2.result
    (λ floor. subst (λ rules. Recalls rules [] c.new.result) (c.floors_rise.ensures.judged committees floor)
    (c.new.ensures (From floor) committees))
    (λ floor. subst (λ rules. Sounds rules [] nothing_told c.new-2.result) (c.floors_rise.ensures.judged committees floor)
    (c.new-2.ensures (From floor) committees))
    c.then_some.result
    (subst (λ held. IfSome held (λ bytes. bytes.items ≡ [])) (sym c.then_some.ensures)
    (none_held c.args.holds c.new-3.result c.new-3.ensures.items))
