use Rattle.simplex_rules.proofs.Prelude.{append-nil, ap, cond, sym, [], ◌++◌, ◌∙◌, ◌∷◌}
use Rattle.simplex_rules.specs.Arising.{is_known}
use Rattle.simplex_alarm.proofs.SplitAlertLemmas.{adds_one}
use Rattle.simplex_alarm.proofs.split_alerts.SplitAlerts.add.Goals as goal

-- another number was accused
pub returns-in_ok-push : goal.returns-in_ok-push
returns-in_ok-push c =
    let split = c.args.split in
    let old = c.args.self.now in
    let before = c.in_ok-before.ensures in
    adds_one split old _ before.updates.1 before.updates.2
    (c.in_ok-push.ensures.items ∙ ap (λ b. old.untold.items ++ cond b [] (split ∷ []))
    (sym (ap (λ o. is_known o split.named) (sym before.old) ∙ sym c.is_known.ensures ∙ c.if-not-is_known.true)))

-- as many were accused
pub returns-else-not-is_known : goal.returns-else-not-is_known
returns-else-not-is_known c =
    let split = c.args.split in
    let old = c.args.self.now in
    let before = c.in_ok-before.ensures in
    adds_one split old _ before.updates.1 before.updates.2
    (sym (append-nil old.untold.items) ∙ ap (λ b. old.untold.items ++ cond b [] (split ∷ []))
    (sym (ap (λ o. is_known o split.named) (sym before.old) ∙ sym c.is_known.ensures ∙ c.if-not-is_known.false)))
