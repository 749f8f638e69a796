use Rattle.std.proofs.Common.{length, take, ◌≡◌, ◌≤◌, ◌^◌}
use Rattle.simplex_ballots.specs.Firsts.{held_from}
use Rattle.simplex_ballots.proofs.firsts.table_of.Given as goal

abbrev pub invariant-few : goal.invariant-few
invariant-few l = record {
  held : held_from 0 l.places.items ≡ take l.first-index l.first-items;
  small : length l.places.items ≤ 2 ^ 32;
}
