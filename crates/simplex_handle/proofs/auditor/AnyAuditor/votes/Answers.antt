use Rattle.simplex_handle.specs.Standing.{Counting}
use Rattle.simplex_handle.proofs.RepliesLemmas.{moves_48, moves_64, moves_96, moves_keyed}
use Rattle.simplex_handle.proofs.auditor.AnyAuditor.votes.Goals as goal

pub returns-in-Vouched48-clause-counts : goal.returns-in-Vouched48-clause-counts
returns-in-Vouched48-clause-counts c = λ roster floor stream.
    moves_48 _ (Counting floor stream c.votes.new.count c.votes.result) floor stream _ c.in-Vouched48.live c.votes.new.live
    c.in-Vouched48.is (λ committees. c.votes.ensures.counts floor committees stream) roster

pub returns-in-Vouched64-clause-counts : goal.returns-in-Vouched64-clause-counts
returns-in-Vouched64-clause-counts c = λ roster floor stream.
    moves_64 _ (Counting floor stream c.votes-in-Vouched64.new.count c.votes-in-Vouched64.result) floor stream _
    c.in-Vouched64.live c.votes-in-Vouched64.new.live
    c.in-Vouched64.is (λ committees. c.votes-in-Vouched64.ensures.counts floor committees stream) roster

pub returns-in-Vouched96-clause-counts : goal.returns-in-Vouched96-clause-counts
returns-in-Vouched96-clause-counts c = λ roster floor stream.
    moves_96 _ (Counting floor stream c.votes-in-Vouched96.new.count c.votes-in-Vouched96.result) floor stream _
    c.in-Vouched96.live c.votes-in-Vouched96.new.live
    c.in-Vouched96.is (λ committees. c.votes-in-Vouched96.ensures.counts floor committees stream) roster

pub returns-in-Keyed-clause-counts : goal.returns-in-Keyed-clause-counts
returns-in-Keyed-clause-counts c = λ roster floor stream.
    moves_keyed _ (Counting floor stream c.votes-in-Keyed.new.count c.votes-in-Keyed.result) floor stream _ c.in-Keyed.live
    c.votes-in-Keyed.new.live
    c.in-Keyed.is (λ committees. c.votes-in-Keyed.ensures.counts floor committees stream) roster
