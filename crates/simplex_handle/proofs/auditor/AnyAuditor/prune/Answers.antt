use Rattle.simplex_handle.specs.Standing.{Pruning}
use Rattle.simplex_handle.proofs.RepliesLemmas.{moves_48, moves_64, moves_96, moves_keyed}
use Rattle.simplex_handle.proofs.auditor.AnyAuditor.prune.Goals as goal

pub returns-in-Vouched48 : goal.returns-in-Vouched48
returns-in-Vouched48 c = λ roster floor stream.
    moves_48 _ (Pruning floor stream c.args.lowest) floor stream _ c.in-Vouched48.live c.prune.new.live
    c.in-Vouched48.is (λ committees. c.prune.ensures floor committees stream) roster

pub returns-in-Vouched64 : goal.returns-in-Vouched64
returns-in-Vouched64 c = λ roster floor stream.
    moves_64 _ (Pruning floor stream c.args.lowest) floor stream _ c.in-Vouched64.live c.prune-in-Vouched64.new.live
    c.in-Vouched64.is (λ committees. c.prune-in-Vouched64.ensures floor committees stream) roster

pub returns-in-Vouched96 : goal.returns-in-Vouched96
returns-in-Vouched96 c = λ roster floor stream.
    moves_96 _ (Pruning floor stream c.args.lowest) floor stream _ c.in-Vouched96.live c.prune-in-Vouched96.new.live
    c.in-Vouched96.is (λ committees. c.prune-in-Vouched96.ensures floor committees stream) roster

pub returns-in-Keyed : goal.returns-in-Keyed
returns-in-Keyed c = λ roster floor stream.
    moves_keyed _ (Pruning floor stream c.args.lowest) floor stream _ c.in-Keyed.live c.prune-in-Keyed.new.live
    c.in-Keyed.is (λ committees. c.prune-in-Keyed.ensures floor committees stream) roster
