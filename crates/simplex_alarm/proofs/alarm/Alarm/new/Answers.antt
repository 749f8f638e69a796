use Rattle.simplex_alarm.proofs.alarm.Alarm.new.Goals as goal

pub returns : goal.returns
returns g c judging schedule =
    record { evidence = c.new.ensures judging schedule; splits = c.new-2.ensures judging schedule }
