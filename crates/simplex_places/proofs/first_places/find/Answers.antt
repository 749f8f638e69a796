use Rattle.std.proofs.Common.{ℕ, refl}
use Rattle.simplex_base.specs.Format.{Format, fixed}
use Rattle.simplex_evidence.specs.Activity.{activity_format, votes_in}
use Rattle.simplex_evidence.specs.declared.types.activity.Activity.{Activity}
use Rattle.simplex_places.specs.FirstPlaces.{votes_placed}
use Rattle.simplex_places.specs.Places.{message_places}
use Rattle.simplex_places.proofs.PlaceLemmas.{finds_all}
use Rattle.simplex_places.proofs.first_places.find.Given as given
use Rattle.simplex_places.proofs.first_places.find.Goals as goal

-- the messages of a scheme
abbrev Message : given.Over → Type 0
Message g =
    Activity g.row.S.Denot g.row.D.Denot g.row.S-Certificate.Denot g.row.S-PublicKey.Denot g.row.S-Signature.Denot

-- the formats of payloads and of signatures
abbrev payload : (g : given.Over) → Format g.row.D.Denot
payload g = fixed g.D.Fixed.SIZE g.D.Fixed.bytes_of g.D.Fixed.of_bytes

abbrev signature : (g : given.Over) → Format g.row.S-Signature.Denot
signature g = fixed g.S.Signature.Fixed.SIZE g.S.Signature.Fixed.bytes_of g.S.Signature.Fixed.of_bytes

-- the format of messages under a bound
abbrev format : (g : given.Over) → ℕ → Format (Message g)
format g bound =
    activity_format g.D.PartialEq.eq (payload g)
    (record {
      is_value = g.S.Certificate.Read.fits bound;
      encoding = g.S.Certificate.Encoding.encoding;
      reading = g.S.Certificate.Read.reading bound;
    }) (signature g)

pub returns : goal.returns
returns g c =
    let p = c.in_ok-for_each_message.field-0 in
    finds_all g.K.Ord.cmp g.K.PartialEq.eq g.K.Key.key_of
    (votes_placed (votes_in g.S.Listing.listed) (message_places (payload g) (signature g) g.S.Listing.listed))
    (format g c.args.bound) _ c.for_each_message.new.visitor c.args.stream.now p.rest.now p.read p.stop refl
    c.in_ok-for_each_message.ensures.progress
