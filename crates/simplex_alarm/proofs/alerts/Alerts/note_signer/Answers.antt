use Rattle.simplex_rules.proofs.Prelude.{ap, evidence_value, map, on_ok_weaker, subst, ◌++◌, ◌∙◌}
use Rattle.simplex_ballots.specs.Rounds.{found_at, slots}
use Rattle.simplex_alarm.specs.Alerts.{NotesAll}
use Rattle.simplex_alarm.proofs.alerts.Alerts.note_signer.Goals as goal

pub returns : goal.returns
returns g c =
    on_ok_weaker c.note_all.result (subst (λ es. NotesAll es c.args.self.now c.note_all.new.self)
    (c.in_ok-report_signer.ensures.appended
    ∙ ap (λ es. map evidence_value es ++ found_at g.D.PartialEq.eq (slots c.args.votes.now c.args.signer))
    c.new-found.ensures.items)) c.note_all.ensures
