use Rattle.simplex_tracker.proofs.live.LiveAuditor.floor.Goals as goal

pub returns : goal.returns
returns g c = λ floor committees stream h. h.floor_is
