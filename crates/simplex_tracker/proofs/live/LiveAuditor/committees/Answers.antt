use Rattle.simplex_tracker.proofs.live.LiveAuditor.committees.Goals as goal

pub returns : goal.returns
returns g c = λ floor committees stream h. h.committees_are
