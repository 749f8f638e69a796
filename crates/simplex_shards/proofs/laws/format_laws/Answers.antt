use Rattle.simplex_base.specs.Format.{fixed}
use Rattle.simplex_evidence.specs.ActivityLaws.{activity_lawful}
use Rattle.simplex_scheme.specs.Committees.{bound_of}
use Rattle.simplex_rules.specs.Scheme.{rules_of, scheme_of}
use Rattle.simplex_shards.proofs.PartLemmas.{in_conflict}
use Rattle.simplex_shards.proofs.laws.format_laws.Goals as goal

pub returns-clause-one_round : goal.returns-clause-one_round
returns-clause-one_round g c committees message is =
    c.rounds_are_independent.ensures.whole (rules_of (scheme_of g.D.PartialEq.eq g.S.CertificateScheme.keys g.S.Scheme.good
    g.S.CertificateVerifier.certified g.S.Listing.listed) committees) message
    (in_conflict g.D.PartialEq.eq (fixed g.D.Fixed.SIZE g.D.Fixed.bytes_of g.D.Fixed.of_bytes)
    (g.S.Certificate.Read.fits (bound_of g.S.CertificateScheme.keys committees))
    (fixed g.S.Signature.Fixed.SIZE g.S.Signature.Fixed.bytes_of g.S.Signature.Fixed.of_bytes) message is)

pub returns-clause-readable : goal.returns-clause-readable
returns-clause-readable g c committees =
    let bound = bound_of g.S.CertificateScheme.keys committees in
    activity_lawful g.D.PartialEq.eq (fixed g.D.Fixed.SIZE g.D.Fixed.bytes_of g.D.Fixed.of_bytes) (record {
      is_value = g.S.Certificate.Read.fits bound;
      encoding = g.S.Certificate.Encoding.encoding;
      reading = g.S.Certificate.Read.reading bound;
    }) (fixed g.S.Signature.Fixed.SIZE g.S.Signature.Fixed.bytes_of g.S.Signature.Fixed.of_bytes)
    g.met.D.Fixed.lawful (g.met.S.Certificate.Read.lawful bound) g.met.S.Signature.Fixed.lawful
