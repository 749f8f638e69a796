use Rattle.std.proofs.Common.{◌↔◌, drop}
use Rattle.simplex_shards.specs.Ranges.{AreWithin}
use Rattle.simplex_ffi.proofs.WithinLemmas.{Fit}
use Rattle.simplex_ffi.proofs.within.are_within.Given as goal

abbrev pub invariant-each : goal.invariant-each
invariant-each l = Fit l.fn.size l.room (drop l.range-index l.fn.ranges) ↔ AreWithin l.fn.size l.fn.ranges
