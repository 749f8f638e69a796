use Rattle.std.proofs.Common.{filter, length, ◌≡◌}
use Rattle.slab.specs.Slab as slab
use Rattle.simplex_rules.specs.Independence.{is_from}
use Rattle.simplex_detector.specs.RoundMap.{IsSound, placed}
use Rattle.simplex_detector.proofs.round_map.RoundMap.prune.Given as goal

-- what is removed is below the floor
abbrev pub invariant-below : goal.invariant-below
invariant-below g l = record {
  sound : IsSound l.self-inside.places l.self-inside.values l.self-inside.last;
  above : filter (λ entry. is_from l.fn.floor entry.0) l.fn.self
      ≡ filter (λ entry. is_from l.fn.floor entry.0) (placed (slab.get l.self-inside.values) l.self-inside.places.entries);
}

abbrev pub decreases-below : goal.decreases-below
decreases-below g l = length l.self-inside.places.entries
