use Rattle.simplex_rules.proofs.Prelude.{append_assoc, append-nil, ap, evidence_value, map, map-append, subst, sym, [], ◌++◌, ◌∙◌, ◌∷◌}
use Rattle.simplex_alarm.specs.Alerts.{NotesAll}
use Rattle.simplex_alarm.proofs.AlertLemmas.{no_items, notes_more, notes_none}
use Rattle.simplex_alarm.proofs.alerts.Alerts.note_all.Goals as goal

pub found-init : goal.found-init
found-init g c = record {
  over = c.into_iter-evidence-iterator.ensures.into_iter_gives.0;
  noted = notes_none c.args.self.now;
}

-- one more evidence
pub found-preserved : goal.found-preserved
found-preserved g c = record {
  over = append_assoc c.found.yielded (c.in-Some.evidence ∷ []) c.next.new.self.rest.items
      ∙ ap (λ rest. c.found.yielded ++ rest) (sym c.in-Some.ensures.steps.0) ∙ c.found.invariant.over;
  noted = subst (λ es. NotesAll es c.args.self.now c.note_evidence.new.self)
      (sym (map-append evidence_value c.found.yielded (c.in-Some.evidence ∷ [])))
      (notes_more (map evidence_value c.found.yielded) (evidence_value c.in-Some.evidence ∷ []) c.args.self.now c.found.self
      c.note_evidence.new.self c.found.invariant.noted c.in_ok-note_evidence.ensures);
}

pub returns : goal.returns
returns g c =
    subst (λ es. NotesAll (map evidence_value es) c.args.self.now c.found.self)
    (sym (append-nil c.found.yielded) ∙ ap (λ rest. c.found.yielded ++ rest)
    (sym (no_items c.found.evidence-iterator.rest.items
    (sym c.found.evidence-iterator.rest.ok.0 ∙ c.in-None.ensures.steps.0)))
    ∙ c.found.invariant.over) c.found.invariant.noted
