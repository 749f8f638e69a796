use Rattle.std.proofs.Common.{refl}
use Rattle.simplex_base.specs.Format.{fixed}
use Rattle.simplex_places.specs.Places.{message_places}
use Rattle.simplex_places.proofs.ReadingLemmas.{places_one}
use Rattle.simplex_places.proofs.reading.read_next.Goals as goal

pub returns : goal.returns
returns g c =
    places_one (message_places (fixed g.D.Fixed.SIZE g.D.Fixed.bytes_of g.D.Fixed.of_bytes)
    (fixed g.S.Signature.Fixed.SIZE g.S.Signature.Fixed.bytes_of g.S.Signature.Fixed.of_bytes) g.S.Listing.listed)
    _ c.args.message.now c.args.size c.args.reader.now _ c.requires.size c.in_ok-push_message.ensures refl
