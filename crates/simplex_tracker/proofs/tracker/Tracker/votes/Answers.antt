use Rattle.simplex_rules.specs.declared.judging.Judging.TheVariants.{From}
use Rattle.simplex_tracker.proofs.TrackingLemmas.{tracks_votes}
use Rattle.simplex_tracker.proofs.tracker.Tracker.votes.Goals as goal

pub returns : goal.returns
returns g c floor committees =
    tracks_votes _ _ c.args.self.now c.votes.result (c.floors_rise.ensures.judged committees)
    (λ f. c.votes.ensures (From f) committees) floor
