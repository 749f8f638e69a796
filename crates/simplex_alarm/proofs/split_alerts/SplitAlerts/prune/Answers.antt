use Rattle.simplex_rules.proofs.Prelude.{ap, is_from, is_key, round_cmp, ◌∙◌}
use Rattle.std.specs.Map.{lookup}
use Rattle.std.proofs.lemmas.Fn.{filter_same}
use Rattle.simplex_detector.proofs.PruneLemmas.{lookup-within}
use Rattle.simplex_alarm.proofs.SplitAlertLemmas.{splits_part}
use Rattle.simplex_alarm.proofs.split_alerts.SplitAlerts.prune.Goals as goal

-- the closure only tests
pub returns : goal.returns
returns g c rules messages told tells =
    let floor = c.args.floor in
    let untold = filter_same _ (λ s. is_from floor s.round) _
    (λ x b f t. (t.called.met.0 ∙ (λ i. is_from floor (t.shows i).round), t.called.met.1)) _ _
    c.retain.ensures.filtered in
    splits_part rules (is_from floor) messages told c.args.self.now _
    (λ round. ap (lookup (is_key (round_cmp round))) c.prune_rounds.ensures
    ∙ lookup-within (is_from floor) round c.args.self.now.accused.entries)
    untold tells
