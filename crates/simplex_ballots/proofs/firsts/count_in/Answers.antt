use Rattle.std.proofs.Common.{arith, ap, length}
use Rattle.simplex_ballots.proofs.TableLemmas.{counted_some, held_next_none}
use Rattle.simplex_ballots.proofs.firsts.count_in.Goals as goal
use Rattle.simplex_ballots.proofs.firsts.count_in.Goals.{then-place, else-place}

pub places-preserved : goal.places-preserved
places-preserved c = elim c.if-place.branch [
  | then-place w ↦
      let more = counted_some c.args.places.now c.places.place-index 0 c.places-test.true w.if-place.true in
      record {
        counted = omega (arith, more, w.count-is, c.places.invariant.counted);
        few = omega (arith, w.count-is, c.places.invariant.few);
      }
  | else-place w ↦
      let same = ap length (held_next_none c.args.places.now c.places.place-index 0 c.places-test.true w.if-place.false) in
      record {
        counted = omega (arith, same, w.count-is, c.places.invariant.counted);
        few = omega (arith, w.count-is, c.places.invariant.few);
      }
]
