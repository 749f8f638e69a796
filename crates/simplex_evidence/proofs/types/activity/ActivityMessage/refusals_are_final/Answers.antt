use Rattle.simplex_base.specs.Format.{fixed}
use Rattle.simplex_base.specs.FinalityLaws.{fixed_final}
use Rattle.simplex_evidence.specs.ActivityLaws.{activity_final}
use Rattle.simplex_evidence.proofs.types.activity.ActivityMessage.refusals_are_final.Goals as goal

pub returns : goal.returns
returns g c = record {
  settled = λ final bound. activity_final g.D.PartialEq.eq
      (fixed g.D.Fixed.SIZE g.D.Fixed.bytes_of g.D.Fixed.of_bytes)
      (record {
        is_value = g.S.Certificate.Read.fits bound;
        encoding = g.S.Certificate.Encoding.encoding;
        reading = g.S.Certificate.Read.reading bound;
      })
      (fixed g.S.Signature.Fixed.SIZE g.S.Signature.Fixed.bytes_of g.S.Signature.Fixed.of_bytes)
      (fixed_final g.D.Fixed.SIZE g.D.Fixed.of_bytes) (c.refusals_are_final.ensures.settled final bound)
      (fixed_final g.S.Signature.Fixed.SIZE g.S.Signature.Fixed.of_bytes);
}
