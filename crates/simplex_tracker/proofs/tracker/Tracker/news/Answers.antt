use Rattle.simplex_tracker.proofs.TrackingLemmas.{tracks_told}
use Rattle.simplex_tracker.proofs.tracker.Tracker.news.Goals as goal

pub returns-clause-tracks : goal.returns-clause-tracks
returns-clause-tracks g c = λ floor committees.
    tracks_told _ c.args.self.now c.take.new.self c.take.result c.take.ensures floor

pub returns-clause-quiet : goal.returns-clause-quiet
returns-clause-quiet g c =
    record { evidence = c.take.ensures.no_evidence_left; splits = c.take.ensures.no_split_left }
