use Rattle.std.proofs.Common.{length, take, ◌≡◌, ◌≤◌}
use Rattle.simplex_ballots.specs.Firsts.{held_from}
use Rattle.simplex_ballots.proofs.firsts.count_in.Given as goal

abbrev pub invariant-places : goal.invariant-places
invariant-places l = record {
  counted : l.count ≡ length (held_from 0 (take l.place-index l.places));
  few : l.count ≤ l.place-index;
}
