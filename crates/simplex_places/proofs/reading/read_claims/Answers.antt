use Rattle.std.proofs.Common.{ℕ, refl, subst}
use Rattle.simplex_base.specs.Format.{Format, fixed}
use Rattle.simplex_evidence.specs.Activity.{activity_format}
use Rattle.simplex_evidence.specs.declared.types.activity.Activity.{Activity}
use Rattle.simplex_rules.specs.Judging.{rules_under}
use Rattle.simplex_rules.specs.declared.judging.Judging.TheVariants.{Claimed}
use Rattle.simplex_scheme.specs.Committees.{Schedule}
use Rattle.simplex_rules.specs.Scheme.{rules_of, scheme_of}
use Rattle.simplex_rules.specs.Rules.{Rules}
use Rattle.simplex_audit.specs.Basis.{Basis}
use Rattle.simplex_places.specs.Places.{message_places}
use Rattle.simplex_places.specs.Suspects.{AreRead}
use Rattle.simplex_places.proofs.ReadingLemmas.{claims_all}
use Rattle.simplex_places.proofs.reading.read_claims.Given as given
use Rattle.simplex_places.proofs.reading.read_claims.Goals as goal

-- the messages of a scheme
abbrev Message : given.Over → Type 0
Message g =
    Activity g.row.S.Denot g.row.D.Denot g.row.S-Certificate.Denot g.row.S-PublicKey.Denot g.row.S-Signature.Denot

abbrev payload : (g : given.Over) → Format g.row.D.Denot
payload g = fixed g.D.Fixed.SIZE g.D.Fixed.bytes_of g.D.Fixed.of_bytes

abbrev signature : (g : given.Over) → Format g.row.S-Signature.Denot
signature g = fixed g.S.Signature.Fixed.SIZE g.S.Signature.Fixed.bytes_of g.S.Signature.Fixed.of_bytes

-- the rules by which claims are judged
abbrev claims : (g : given.Over) → Schedule g.row.S.Denot → Rules g.row.S.Denot g.row.D.Denot
    g.row.S-Certificate.Denot g.row.S-PublicKey.Denot g.row.S-Signature.Denot
claims g = rules_under (scheme_of g.D.PartialEq.eq g.S.CertificateScheme.keys g.S.Scheme.good
    g.S.CertificateVerifier.certified g.S.Listing.listed) Claimed

-- the basis of an audit under a bound
abbrev basis : (g : given.Over) → Schedule g.row.S.Denot → ℕ → Basis g.row.S.Denot g.row.D.Denot
    g.row.S-Certificate.Denot g.row.S-PublicKey.Denot g.row.S-Signature.Denot
basis g committees bound = record {
  bound = bound;
  format = activity_format g.D.PartialEq.eq (payload g) (record {
    is_value = g.S.Certificate.Read.fits bound;
    encoding = g.S.Certificate.Encoding.encoding;
    reading = g.S.Certificate.Read.reading bound;
  }) (signature g);
  rules = rules_of (scheme_of g.D.PartialEq.eq g.S.CertificateScheme.keys g.S.Scheme.good
      g.S.CertificateVerifier.certified g.S.Listing.listed) committees;
}

pub returns : goal.returns
returns g c = λ same.
    let p = c.in_ok-for_each_message.field-0 in
    let places_in = message_places (payload g) (signature g) g.S.Listing.listed in
    let committees = c.args.committees.now in
    let rules = claims g committees in
    let next = c.for_each_message.new.visitor in
    let stream = c.args.stream.now in
    subst (λ (bound : ℕ). AreRead (basis g committees bound) rules places_in stream next.detector
    next.reader.places.items) same
    (claims_all rules places_in (basis g committees c.args.bound) _ next stream p.rest.now p.read p.stop
    (c.new.ensures Claimed committees) c.new-2.ensures.items refl c.in_ok-for_each_message.ensures.progress)
