use Rattle.simplex_rules.proofs.Prelude.{ap, evidence_value, map, refl, ◌∙◌}
use Rattle.simplex_alarm.proofs.AlertLemmas.{tells_untold}
use Rattle.simplex_alarm.proofs.alerts.Alerts.take.Goals as goal

pub returns : goal.returns
returns g c =
    tells_untold (map evidence_value c.replace.result.items) c.args.self.now _
    (ap (λ vec. map evidence_value vec.items) c.replace.ensures.value)
    (ap (λ vec. map evidence_value vec.items) c.replace.ensures.after ∙ ap (map evidence_value) c.new.ensures.items)
    (λ n. refl)
