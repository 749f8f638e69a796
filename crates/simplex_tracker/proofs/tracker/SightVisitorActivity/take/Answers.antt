use Rattle.std.proofs.Common.{refl}
use Rattle.simplex_tracker.proofs.tracker.SightVisitorActivity.take.Goals as goal

pub returns : goal.returns
returns g c = record {
  floor = refl;
  recalls = c.in_ok-observe.ensures.records;
  sounds = c.in_ok-observe.ensures.sounds;
}
