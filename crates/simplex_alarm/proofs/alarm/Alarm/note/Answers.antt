use Rattle.std.proofs.lemmas.Result.{on_ok_weaker}
use Rattle.simplex_alarm.proofs.alarm.Alarm.note.Goals as goal

pub returns : goal.returns
returns g c = on_ok_weaker c.note-2.result (λ noted judging messages told l holds sounds. record {
  evidence = c.in_ok-note.ensures judging c.args.committees.now messages told.evidence holds sounds.evidence;
  splits = noted judging messages told.splits l holds sounds.splits;
}) c.note-2.ensures
