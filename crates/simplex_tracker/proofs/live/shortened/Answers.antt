use Rattle.simplex_tracker.proofs.LiveLemmas.{compaction_short, compaction_stands}
use Rattle.simplex_tracker.proofs.live.shortened.Goals as goal

pub returns-clause-stands : goal.returns-clause-stands
returns-clause-stands g c =
    compaction_stands _ c.args.stream.now _ _ _ _ c.in_ok-bytes.ensures.part c.rest_at.ensures.none c.rest_at.ensures.some _
    c.in_ok-extend_from_slice.ensures.items

pub returns-clause-short : goal.returns-clause-short
returns-clause-short g c =
    compaction_short _ c.args.stream.now _ _ _ _ c.in_ok-bytes.ensures.part c.rest_at.ensures.none c.rest_at.ensures.some _
    c.in_ok-extend_from_slice.ensures.items
