use Rattle.std.proofs.Common.{refl}
use Rattle.simplex_handle.proofs.RepliesLemmas.{piece_given}
use Rattle.simplex_handle.proofs.replies.list_piece.Goals as goal

pub returns-in_default-clause-given : goal.returns-in_default-clause-given
returns-in_default-clause-given g c = λ not floor committees stream h begins. absurd (not refl)

pub returns-clause-given : goal.returns-clause-given
returns-clause-given g c = λ not floor committees stream h begins.
    piece_given _ _ c.args.size c.args.bytes.now c.args.records.now c.put_piece.new.records c.put_piece.new.needed
    c.put_piece.new.whole c.put_piece.result c.in-Ok.piece _ _ c.args.live.now floor committees stream h
    (c.floor-floor.ensures floor committees stream h) (c.committees-committees.ensures floor committees stream h) begins
    c.in-Ok.ensures.piece c.put_piece.ensures.needed c.put_piece.ensures.whole c.put_piece.ensures.put
