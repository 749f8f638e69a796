use Rattle.std.proofs.Common.{take, ap, arith}
use Rattle.std.proofs.lemmas.List.{take_all}
use Rattle.simplex_shards.specs.declared.ranges.Range.{Range}
use Rattle.simplex_shards.specs.Ranges.{bytes_of_ranges}
use Rattle.simplex_ffi.proofs.FeedLemmas.{one_more, room_for, stands_for_same}
use Rattle.simplex_ffi.proofs.parts.feed_ranges.Invariants.{basis}
use Rattle.simplex_ffi.proofs.parts.feed_ranges.Goals as goal

abbrev none : Range
none = record { place = 0; length = 0 }

pub feed_range-requires-clause-room : goal.feed_range-requires-clause-room
feed_range-requires-clause-room g c =
    (room_for c.args.ranges.now c.each.range-index _ none c.each-test.true c.each.invariant.1 c.requires.few).0

pub each-preserved : goal.each-preserved
each-preserved g c =
    let stream = c.args.stream.now in
    let ranges = c.args.ranges.now in
    let i = c.each.range-index in
    let room = (room_for ranges i _ none c.each-test.true c.each.invariant.1 c.requires.few).1 in
    let fed = c.in_ok-auditor.ensures.fed in (
      stands_for_same (basis g) c.args.committees.now _ _ _ (one_more stream ranges i none c.each-test.true)
          (c.in_ok-auditor.ensures.stands c.args.committees.now (bytes_of_ranges stream (take i ranges)) c.each.invariant.0),
      omega (arith, room, fed),
    )

pub returns : goal.returns
returns g c =
    stands_for_same (basis g) c.args.committees.now _ _ _
    (ap (bytes_of_ranges c.args.stream.now) (take_all c.each.range-index c.args.ranges.now c.each-test.false))
    c.each.invariant.0
