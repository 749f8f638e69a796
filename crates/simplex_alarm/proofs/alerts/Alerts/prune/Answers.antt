use Rattle.simplex_rules.proofs.Prelude.{accused_by, ap, evidence_value, is_from, map, ◌∙◌}
use Rattle.std.proofs.lemmas.Fn.{filter_same}
use Rattle.simplex_alarm.proofs.AlertLemmas.{arisen_in_part, tells_part}
use Rattle.simplex_rules.proofs.Filters.{map-filter}
use Rattle.simplex_alarm.proofs.alerts.Alerts.prune.Goals as goal

-- the closure only tests
pub returns : goal.returns
returns g c rules messages told tells =
    let floor = c.args.floor in
    let untold = filter_same _ (λ e. is_from floor (accused_by (evidence_value e)).round) _
    (λ x b f t. (t.called.met.0 ∙ (λ i. is_from floor (accused_by (evidence_value (t.shows i))).round), t.called.met.1)) _ _
    c.retain.ensures.filtered in
    tells_part rules (is_from floor) messages told c.args.self.now _
    (arisen_in_part (is_from floor) c.args.self.now.accused c.prune_accusations.new.accusations c.prune_accusations.ensures)
    (ap (map evidence_value) untold
    ∙ map-filter evidence_value (λ e. is_from floor (accused_by e).round) c.args.self.now.untold.items) tells
