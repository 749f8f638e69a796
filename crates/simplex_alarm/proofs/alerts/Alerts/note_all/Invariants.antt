use Rattle.simplex_rules.proofs.Prelude.{evidence_value, map, ◌++◌, ◌≡◌}
use Rattle.simplex_alarm.specs.Alerts.{NotesAll}
use Rattle.simplex_alarm.proofs.alerts.Alerts.note_all.Given as goal

abbrev pub invariant-found : goal.invariant-found
invariant-found g l = record {
  over : l.yielded ++ l.evidence-iterator.rest.items ≡ l.fn.found.items;
  noted : NotesAll (map evidence_value l.yielded) l.fn.self l.self;
}
