use Rattle.simplex_rules.proofs.Prelude.{fixed}
use Rattle.simplex_laws.proofs.RoomLemmas.{recorded_have_room}
use Rattle.simplex_laws.proofs.laws.recorded_votes_have_room.Goals as goal

pub returns : goal.returns
returns g c rules room messages =
    recorded_have_room rules g.D.PartialEq.eq (fixed g.D.Fixed.SIZE g.D.Fixed.bytes_of g.D.Fixed.of_bytes)
    g.S.Certificate.Encoding.encoding
    (fixed g.S.Signature.Fixed.SIZE g.S.Signature.Fixed.bytes_of g.S.Signature.Fixed.of_bytes)
    room messages
