use Rattle.simplex_rules.proofs.Prelude.{accused_by, ap, append-nil, cond, contains, evidence_value, map, map-append, not-true, sym, [], ◌++◌, ◌∙◌, ◌∷◌}
use Rattle.simplex_rules.specs.Accusation.{key_cmp}
use Rattle.simplex_alarm.specs.Alerts.{untold}
use Rattle.simplex_alarm.proofs.AlertLemmas.{arises_by, not-false, notes_one}
use Rattle.simplex_rules.proofs.OrderLemmas.{by_key}
use Rattle.simplex_alarm.proofs.alerts.Alerts.note_evidence.Goals as goal

-- it arises now
pub returns-in_ok-push : goal.returns-in_ok-push
returns-in_ok-push g c =
    let e = evidence_value c.args.evidence in
    let old = c.args.self.now in
    notes_one old _ e
    (arises_by _ by_key old.accused c.insert.new.self (accused_by e) c.accusation.result c.accusation.ensures
    c.in_ok-insert.ensures.updates.0)
    (ap (map evidence_value) c.in_ok-push.ensures.items ∙ map-append evidence_value old.untold.items (c.args.evidence ∷ [])
    ∙ ap (λ b. untold old ++ cond b [] (e ∷ []))
    (sym (ap (contains key_cmp old.accused) (sym c.accusation.ensures)
    ∙ (λ i. contains (sym by_key i) old.accused c.accusation.result)
    ∙ not-true _ (sym c.in_ok-insert.ensures.added ∙ c.if-branch.true))))

-- it arose before
pub returns-else-branch : goal.returns-else-branch
returns-else-branch g c =
    let e = evidence_value c.args.evidence in
    let old = c.args.self.now in
    notes_one old _ e
    (arises_by _ by_key old.accused c.insert.new.self (accused_by e) c.accusation.result c.accusation.ensures
    c.in_ok-insert.ensures.updates.0)
    (sym (append-nil (untold old)) ∙ ap (λ b. untold old ++ cond b [] (e ∷ []))
    (sym (ap (contains key_cmp old.accused) (sym c.accusation.ensures)
    ∙ (λ i. contains (sym by_key i) old.accused c.accusation.result)
    ∙ not-false _ (sym c.in_ok-insert.ensures.added ∙ c.if-branch.false))))
