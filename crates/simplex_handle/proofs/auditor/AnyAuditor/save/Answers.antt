use Rattle.simplex_handle.specs.Standing.{Saving}
use Rattle.simplex_handle.proofs.RepliesLemmas.{moves_48, moves_64, moves_96, moves_keyed}
use Rattle.simplex_handle.proofs.auditor.AnyAuditor.save.Goals as goal

pub returns-in-Vouched48-clause-saves : goal.returns-in-Vouched48-clause-saves
returns-in-Vouched48-clause-saves c = λ roster floor stream.
    moves_48 _ (Saving floor stream c.args.buffer.now c.save.new.buffer c.save.new.size c.save.result) floor stream _
    c.in-Vouched48.live c.save.new.live
    c.in-Vouched48.is (λ committees. c.save.ensures.saves floor committees stream) roster

pub returns-in-Vouched64-clause-saves : goal.returns-in-Vouched64-clause-saves
returns-in-Vouched64-clause-saves c = λ roster floor stream.
    moves_64 _ (Saving floor stream c.args.buffer.now c.save-in-Vouched64.new.buffer c.save-in-Vouched64.new.size
    c.save-in-Vouched64.result) floor stream _ c.in-Vouched64.live c.save-in-Vouched64.new.live
    c.in-Vouched64.is (λ committees. c.save-in-Vouched64.ensures.saves floor committees stream) roster

pub returns-in-Vouched96-clause-saves : goal.returns-in-Vouched96-clause-saves
returns-in-Vouched96-clause-saves c = λ roster floor stream.
    moves_96 _ (Saving floor stream c.args.buffer.now c.save-in-Vouched96.new.buffer c.save-in-Vouched96.new.size
    c.save-in-Vouched96.result) floor stream _ c.in-Vouched96.live c.save-in-Vouched96.new.live
    c.in-Vouched96.is (λ committees. c.save-in-Vouched96.ensures.saves floor committees stream) roster

pub returns-in-Keyed-clause-saves : goal.returns-in-Keyed-clause-saves
returns-in-Keyed-clause-saves c = λ roster floor stream.
    moves_keyed _ (Saving floor stream c.args.buffer.now c.save-in-Keyed.new.buffer c.save-in-Keyed.new.size
    c.save-in-Keyed.result) floor stream _ c.in-Keyed.live c.save-in-Keyed.new.live
    c.in-Keyed.is (λ committees. c.save-in-Keyed.ensures.saves floor committees stream) roster
