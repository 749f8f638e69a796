use Rattle.simplex_handle.specs.Standing.{Feeding}
use Rattle.simplex_handle.proofs.RepliesLemmas.{moves_48, moves_64, moves_96, moves_keyed}
use Rattle.simplex_handle.proofs.auditor.AnyAuditor.feed.Goals as goal

pub returns-in-Vouched48-clause-feeds : goal.returns-in-Vouched48-clause-feeds
returns-in-Vouched48-clause-feeds c = λ roster floor stream.
    moves_48 _ (Feeding floor stream c.args.piece.now c.feed.result) floor stream _ c.in-Vouched48.live c.feed.new.live
    c.in-Vouched48.is (λ committees. c.feed.ensures.feeds floor committees stream) roster

pub returns-in-Vouched64-clause-feeds : goal.returns-in-Vouched64-clause-feeds
returns-in-Vouched64-clause-feeds c = λ roster floor stream.
    moves_64 _ (Feeding floor stream c.args.piece.now c.feed-in-Vouched64.result) floor stream _ c.in-Vouched64.live
    c.feed-in-Vouched64.new.live
    c.in-Vouched64.is (λ committees. c.feed-in-Vouched64.ensures.feeds floor committees stream) roster

pub returns-in-Vouched96-clause-feeds : goal.returns-in-Vouched96-clause-feeds
returns-in-Vouched96-clause-feeds c = λ roster floor stream.
    moves_96 _ (Feeding floor stream c.args.piece.now c.feed-in-Vouched96.result) floor stream _ c.in-Vouched96.live
    c.feed-in-Vouched96.new.live
    c.in-Vouched96.is (λ committees. c.feed-in-Vouched96.ensures.feeds floor committees stream) roster

pub returns-in-Keyed-clause-feeds : goal.returns-in-Keyed-clause-feeds
returns-in-Keyed-clause-feeds c = λ roster floor stream.
    moves_keyed _ (Feeding floor stream c.args.piece.now c.feed-in-Keyed.result) floor stream _ c.in-Keyed.live
    c.feed-in-Keyed.new.live
    c.in-Keyed.is (λ committees. c.feed-in-Keyed.ensures.feeds floor committees stream) roster
