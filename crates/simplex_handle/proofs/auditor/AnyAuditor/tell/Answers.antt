use Rattle.simplex_handle.specs.Standing.{Telling}
use Rattle.simplex_handle.proofs.RepliesLemmas.{moves_48, moves_64, moves_96, moves_keyed}
use Rattle.simplex_handle.proofs.auditor.AnyAuditor.tell.Goals as goal

pub returns-in-Vouched48-clause-tells : goal.returns-in-Vouched48-clause-tells
returns-in-Vouched48-clause-tells c = λ roster floor stream.
    moves_48 _ (Telling floor stream c.args.buffer.now c.tell.new.buffer c.tell.new.size c.tell.result) floor stream _
    c.in-Vouched48.live c.tell.new.live
    c.in-Vouched48.is (λ committees. c.tell.ensures.tells floor committees stream) roster

pub returns-in-Vouched64-clause-tells : goal.returns-in-Vouched64-clause-tells
returns-in-Vouched64-clause-tells c = λ roster floor stream.
    moves_64 _ (Telling floor stream c.args.buffer.now c.tell-in-Vouched64.new.buffer c.tell-in-Vouched64.new.size
    c.tell-in-Vouched64.result) floor stream _ c.in-Vouched64.live c.tell-in-Vouched64.new.live
    c.in-Vouched64.is (λ committees. c.tell-in-Vouched64.ensures.tells floor committees stream) roster

pub returns-in-Vouched96-clause-tells : goal.returns-in-Vouched96-clause-tells
returns-in-Vouched96-clause-tells c = λ roster floor stream.
    moves_96 _ (Telling floor stream c.args.buffer.now c.tell-in-Vouched96.new.buffer c.tell-in-Vouched96.new.size
    c.tell-in-Vouched96.result) floor stream _ c.in-Vouched96.live c.tell-in-Vouched96.new.live
    c.in-Vouched96.is (λ committees. c.tell-in-Vouched96.ensures.tells floor committees stream) roster

pub returns-in-Keyed-clause-tells : goal.returns-in-Keyed-clause-tells
returns-in-Keyed-clause-tells c = λ roster floor stream.
    moves_keyed _ (Telling floor stream c.args.buffer.now c.tell-in-Keyed.new.buffer c.tell-in-Keyed.new.size
    c.tell-in-Keyed.result) floor stream _ c.in-Keyed.live c.tell-in-Keyed.new.live
    c.in-Keyed.is (λ committees. c.tell-in-Keyed.ensures.tells floor committees stream) roster
