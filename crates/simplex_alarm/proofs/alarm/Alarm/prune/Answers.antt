use Rattle.simplex_alarm.proofs.alarm.Alarm.prune.Goals as goal

pub returns : goal.returns
returns g c rules messages told sounds = record {
  evidence = c.prune.ensures rules messages told.evidence sounds.evidence;
  splits = c.prune-2.ensures rules messages told.splits sounds.splits;
}
