use Rattle.simplex_alarm.proofs.SplitAlertLemmas.{splits_taken}
use Rattle.simplex_alarm.proofs.alarm.Alarm.take.Goals as goal

pub returns : goal.returns
returns g c = record {
  evidence_is = c.take.ensures.taken_is;
  splits_are = c.take-2.ensures.taken_is;
  no_evidence_left = c.take.ensures.none_left;
  no_split_left = c.take-2.ensures.none_left;
  sounds = λ rules messages told sounds. record {
    evidence = c.take.ensures.tells rules.eq _ told.evidence sounds.evidence;
    splits = splits_taken rules messages told.splits _ _ _ c.take-2.ensures sounds.splits;
  };
}
