use Rattle.std.proofs.lemmas.Grind.{common_steps}
use Rattle.std.proofs.lemmas.Result.{IfOk-weaker}
use Rattle.std.proofs.Common.{◌-◌, length, ap, subst, arith}
use Rattle.simplex_stream.proofs.DecoderLemmas.{decodes_both, decodes_in_place}
use Rattle.simplex_stream.proofs.decoder.Decoder.feed.Goals as goal

pub append-requires-clause-room : goal.append-requires-clause-room
append-requires-clause-room g c =
    g.met.V.Visitor.less c.args.visitor.now _ (length c.args.piece.now - c.head-head.result)
    (subst (g.V.Visitor.has_room c.args.visitor.now) (grind (arith, common_steps)) c.requires.room)

pub read_in_place-requires-clause-room : goal.read_in_place-requires-clause-room
read_in_place-requires-clause-room g c =
    subst (g.V.Visitor.has_room c.append.new.visitor) (grind (arith, common_steps))
    (c.in_ok-append.ensures.room (length c.args.piece.now - c.head-head.result)
    (subst (g.V.Visitor.has_room c.args.visitor.now) (grind (arith, common_steps)) c.requires.room))

pub returns-then-head-piece-clause-decoded : goal.returns-then-head-piece-clause-decoded
returns-then-head-piece-clause-decoded g c =
    IfOk-weaker c.append-then-head-piece.result _ _ (λ done. decodes_both _ (g.V.Visitor.follows c.args.context.now)
    (g.met.V.Visitor.none c.args.context.now) c.args.piece.now c.head-head.result c.in_ok-append.ensures.decoded)
    c.append-then-head-piece.ensures.decoded

pub returns-clause-decoded : goal.returns-clause-decoded
returns-clause-decoded g c =
    IfOk-weaker c.read_in_place.result _ _ (λ done. decodes_in_place _ (g.V.Visitor.follows c.args.context.now)
    (g.met.V.Visitor.none c.args.context.now) c.args.piece.now c.head-head.result c.in_ok-append.ensures.decoded
    (omega arith) (length c.bytes-left.result.now) (ap length c.bytes-left.ensures) (omega arith))
    c.read_in_place.ensures.decoded
