use Rattle.simplex_tracker.proofs.TrackingLemmas.{tracks_pruned}
use Rattle.simplex_tracker.proofs.tracker.Tracker.prune.Goals as goal

pub returns-clause-tracks : goal.returns-clause-tracks
returns-clause-tracks g c = λ low committees.
    tracks_pruned _ c.args.self.now c.args.floor _ c.prune.new.self c.prune-2.new.self (c.floors_rise.ensures.rise _)
    c.max-self.ensures c.prune.ensures c.prune-2.ensures low
