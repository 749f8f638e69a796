use Rattle.std.proofs.Common.{refl}
use Rattle.simplex_audit.proofs.listener.WatcherVisitorActivity.take.Goals as goal

pub returns : goal.returns
returns g c = record {
  records = record { judging = refl; recalls = c.in_ok-observe.ensures.records };
  sounds = c.in_ok-observe.ensures.sounds;
}
