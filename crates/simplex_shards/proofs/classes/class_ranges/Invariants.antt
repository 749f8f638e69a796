use Rattle.std.proofs.Common.{length}
use Rattle.simplex_shards.specs.Cut.{class_under}
use Rattle.simplex_shards.proofs.ClassLemmas.{SoFar}
use Rattle.simplex_shards.proofs.classes.class_ranges.Given as goal

abbrev pub invariant-messages : goal.invariant-messages
invariant-messages g l =
    SoFar (record {
      is_value = g.M.Read.fits l.fn.bound;
      encoding = g.M.Encoding.encoding;
      reading = g.M.Read.reading l.fn.bound;
    }) g.M.Roundable.round_of g.M.Tabular.row_of g.met.M.Tabular.row_is (class_under l.fn.cut) l.fn.stream l.initial.locator
    l.locator l.rest l.read

abbrev pub decreases-messages : goal.decreases-messages
decreases-messages g l = length l.rest
