use Rattle.std.proofs.Common.{[]}
use Rattle.simplex_alarm.specs.Alarm.{nothing_told, told_then}
use Rattle.simplex_tracker.proofs.live.track.Goals as goal

pub returns : goal.returns
returns g c =
    let floor = c.args.floor in
    let committees = c.args.committees.now in
    let stream = c.args.stream.now in
    record {
      told = told_then nothing_told c.news-told.result;
      tracks = c.news-told.ensures.tracks floor committees nothing_told stream
          (c.in_ok-tracker.ensures.tracks floor nothing_told [] c.new.ensures.tracks);
      quiet = c.news-told.ensures.quiet;
    }
